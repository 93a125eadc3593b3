-- Proof obligations of `answering::AnswersListener::hear_end`.
use Rattle.line_answers.proofs.Going.{end_part, end_whole, passes_none}
use Rattle.line_answers.proofs.OneLine.{err_so, written_part}
use Rattle.line_answers.proofs.answering.AnswersListener.hear_end.Goals as goal

pub returns-in_err-write_all-clause-broken : goal.returns-in_err-write_all-clause-broken
returns-in_err-write_all-clause-broken g c =
    err_so c.from_residual.result _
    (λ start before heard h. end_part _ _ _ _ h.1 _ (passes_none _ _ _) _
    (written_part _ _ _ _ _ (rw h.0 at (c.answer_to_kept-answer.ensures _ _ h.2)) (rw c.bytes_of.ensures at c.in_err-write_all.ensures.part)))

pub returns-clause-over : goal.returns-clause-over
returns-clause-over g c start before heard h =
    end_whole _ _ _ _ _ h.1 (passes_none _ _ _) _ _ _ (rw c.bytes_of-2.ensures at c.pass_with-self.ensures)
    (rw c.bytes_of.ensures at c.in_ok-write_all.ensures.whole) (rw h.0 at (c.answer_to_kept-answer.ensures _ _ h.2))
