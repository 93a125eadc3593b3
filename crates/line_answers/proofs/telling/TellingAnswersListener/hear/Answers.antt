-- Proof obligations of `telling::TellingAnswersListener::hear`.
use Rattle.line_answers.proofs.Prelude.{◌∙◌}
use Rattle.line_answers.proofs.Going.{kept_none, kept_still}
use Rattle.line_answers.proofs.OneLine.{err_so, written_part}
use Rattle.line_answers.proofs.Tells.{counted, fits_before, tells_break, tells_break_whole, tells_line, tells_whole}
use Rattle.line_answers.proofs.telling.TellingAnswersListener.hear.Goals as goal

pub returns-then-is_empty-clause-on : goal.returns-then-is_empty-clause-on
returns-then-is_empty-clause-on g c same start before heard h =
    let whole = c.is_empty.ensures.empty _ _ h.2 c.if-is_empty.true in (
      h.0,
      c.tell.ensures.same_reference ∙ h.1,
      kept_still _ c.args.self.now.line _ _ c.requires whole h.2,
      λ fits.
          let short = fits_before heard _ fits in
          let t = h.3 short in
          let counts = counted _ _ _ _ _ _ _ heard _ t short in
          tells_whole _ _ _ _ _ _ _ heard _ t _ c.requires _ whole _ _ _ _ _ (rw (h.0, h.2.most_is) at c.answer_to-answer.ensures)
          (rw c.bytes_of.ensures at c.in_ok-write_all.ensures.whole) (rw c.bytes_of-then-is_empty-2.ensures at c.pass_with-self.ensures) (c.tell.ensures.count counts)
          (rw c.bytes_of-then-is_empty.ensures at (c.tell.ensures.tells _ t.text counts t.tells)),
    )

pub returns-in_err-write_all-clause-broken : goal.returns-in_err-write_all-clause-broken
returns-in_err-write_all-clause-broken g c =
    err_so c.from_residual.result _
    (λ start before heard h. (
      h.1,
      λ fits.
          tells_break_whole _ _ _ _ _ _ _ heard _ (h.3 (fits_before heard _ fits)) _ c.requires _ (c.is_empty.ensures.empty _ _ h.2 c.if-is_empty.true)
          (written_part _ _ _ _ _ (rw (h.0, h.2.most_is) at c.answer_to-answer.ensures) (rw c.bytes_of.ensures at c.in_err-write_all.ensures.part)),
    ))

pub returns-clause-on : goal.returns-clause-on
returns-clause-on g c same start before heard h =
    let line = c.extend.ensures _ _ h.2 in (
      h.0,
      c.tell-2.ensures.same_reference ∙ h.1,
      kept_none _ c.clear.new.self _ _ c.requires (c.clear.ensures.kept _ _ line),
      λ fits.
          let short = fits_before heard _ fits in
          let t = h.3 short in
          let counts = counted _ _ _ _ _ _ _ heard _ t short in
          tells_line _ _ _ _ _ _ _ heard _ t _ c.requires _ _ _ _ _ _ (rw h.0 at (c.answer_to_kept-answer.ensures _ _ line))
          (rw c.bytes_of-2.ensures at c.in_ok-write_all-2.ensures.whole) (rw c.bytes_of-4.ensures at c.pass_with-self-2.ensures) (c.tell-2.ensures.count counts)
          (rw c.bytes_of-3.ensures at (c.tell-2.ensures.tells _ t.text counts t.tells)),
    )

pub returns-in_err-write_all-2-clause-broken : goal.returns-in_err-write_all-2-clause-broken
returns-in_err-write_all-2-clause-broken g c =
    err_so c.from_residual-in_err-write_all-2.result _
    (λ start before heard h. (
      h.1,
      λ fits.
          tells_break _ _ _ _ _ _ _ heard _ (h.3 (fits_before heard _ fits)) _ c.requires _
          (written_part _ _ _ _ _ (rw h.0 at (c.answer_to_kept-answer.ensures _ _ (c.extend.ensures _ _ h.2))) (rw c.bytes_of-2.ensures at c.in_err-write_all-2.ensures.part)),
    ))
