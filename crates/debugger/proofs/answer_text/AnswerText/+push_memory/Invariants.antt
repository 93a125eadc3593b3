-- Loop measures of the functions of the cycle `AnswerText::push_memory` (src/answer_text.rt).
use Rattle.debugger.proofs.Prelude.{length}
use Rattle.debugger.proofs.answer_text.AnswerText.+push_memory.Given as goal

abbrev pub decreases-push_memory : goal.decreases-push_memory
decreases-push_memory l = length l.bytes.now
