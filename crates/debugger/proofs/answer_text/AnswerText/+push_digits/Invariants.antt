-- Loop measures of the functions of the cycle `AnswerText::push_digits` (src/answer_text.rt).
use Rattle.debugger.proofs.Prelude.{length}
use Rattle.debugger.proofs.answer_text.AnswerText.+push_digits.Given as goal

abbrev pub decreases-push_digits : goal.decreases-push_digits
decreases-push_digits l = length l.bytes.now
