-- Loop measures of the functions of the cycle `AnswerText::push_hex` (src/answer_text.rt).
use Rattle.debugger.proofs.answer_text.AnswerText.+push_hex.Given as goal

abbrev pub decreases-push_hex : goal.decreases-push_hex
decreases-push_hex l = l.count
