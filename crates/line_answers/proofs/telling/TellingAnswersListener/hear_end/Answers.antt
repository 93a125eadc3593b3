-- Proof obligations of `telling::TellingAnswersListener::hear_end`.
use Rattle.line_answers.proofs.Prelude.{◌∙◌}
use Rattle.line_answers.proofs.Going.{passes_none}
use Rattle.line_answers.proofs.OneLine.{err_so, written_part}
use Rattle.line_answers.proofs.Tells.{counted, tells_end, tells_end_break}
use Rattle.line_answers.proofs.telling.TellingAnswersListener.hear_end.Goals as goal

pub returns-in_err-write_all-clause-broken : goal.returns-in_err-write_all-clause-broken
returns-in_err-write_all-clause-broken g c =
    err_so c.from_residual.result _
    (λ start before heard h. (
      h.1,
      λ fits.
          tells_end_break _ _ _ _ _ _ _ heard _ (h.3 fits) (passes_none _ _ _) _
          (written_part _ _ _ _ _ (rw h.0 at (c.answer_to_kept-answer.ensures _ _ h.2)) (rw c.bytes_of.ensures at c.in_err-write_all.ensures.part)),
    ))

pub returns-clause-over : goal.returns-clause-over
returns-clause-over g c start before heard h = (
  c.tell.ensures.same_reference ∙ h.1,
  λ fits.
      let t = h.3 fits in
      let counts = counted _ _ _ _ _ _ _ heard _ t fits in
      tells_end _ _ _ _ _ _ _ heard _ t (passes_none _ _ _) _ _ _ _ _ (rw h.0 at (c.answer_to_kept-answer.ensures _ _ h.2))
      (rw c.bytes_of.ensures at c.in_ok-write_all.ensures.whole) (rw c.bytes_of-3.ensures at c.pass_with-self.ensures)
      (rw c.bytes_of-2.ensures at (c.tell.ensures.tells _ t.text counts t.tells)),
)
