-- Loop measures of the functions of the cycle `AnswerText::push_frame_lines` (src/answer_text.rt).
use Rattle.debugger.proofs.Prelude.{length}
use Rattle.debugger.proofs.answer_text.AnswerText.+push_frame_lines.Given as goal

abbrev pub decreases-push_frame_lines : goal.decreases-push_frame_lines
decreases-push_frame_lines l = length l.records.now
