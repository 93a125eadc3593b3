-- Proof obligations of `answering::AnswersListener::hear`.
use Rattle.line_answers.proofs.OneLine.{err_so, written_part}
use Rattle.line_answers.proofs.Going.{going_line, going_whole, kept_none, kept_still, told_part, told_part_whole}
use Rattle.line_answers.proofs.answering.AnswersListener.hear.Goals as goal

pub returns-then-is_empty-clause-on : goal.returns-then-is_empty-clause-on
returns-then-is_empty-clause-on g c same start before heard h =
    let whole = c.is_empty.ensures.empty _ _ h.2 c.if-is_empty.true in (
      h.0,
      going_whole _ _ _ _ _ h.1 _ c.requires _ _ _ (rw c.bytes_of-then-is_empty.ensures at c.pass_with-self.ensures)
          (rw c.bytes_of.ensures at c.in_ok-write_all.ensures.whole) whole (rw (h.0, h.2.most_is) at c.answer_to-answer.ensures),
      kept_still _ c.args.self.now.line _ _ c.requires whole h.2,
    )

pub returns-in_err-write_all-clause-broken : goal.returns-in_err-write_all-clause-broken
returns-in_err-write_all-clause-broken g c =
    err_so c.from_residual.result _
    (λ start before heard h. told_part_whole _ _ _ _ h.1 _ _ c.requires _ (c.is_empty.ensures.empty _ _ h.2 c.if-is_empty.true)
    (written_part _ _ _ _ _ (rw (h.0, h.2.most_is) at c.answer_to-answer.ensures) (rw c.bytes_of.ensures at c.in_err-write_all.ensures.part)))

pub returns-clause-on : goal.returns-clause-on
returns-clause-on g c same start before heard h =
    let line = c.extend.ensures _ _ h.2 in (
      h.0,
      going_line _ _ _ _ _ h.1 _ c.requires _ _ _ (rw c.bytes_of-3.ensures at c.pass_with-self-2.ensures)
          (rw c.bytes_of-2.ensures at c.in_ok-write_all-2.ensures.whole) (rw h.0 at (c.answer_to_kept-answer.ensures _ _ line)),
      kept_none _ c.clear.new.self _ _ c.requires (c.clear.ensures.kept _ _ line),
    )

pub returns-in_err-write_all-2-clause-broken : goal.returns-in_err-write_all-2-clause-broken
returns-in_err-write_all-2-clause-broken g c =
    err_so c.from_residual-in_err-write_all-2.result _
    (λ start before heard h. told_part _ _ _ _ h.1 _ _ c.requires _
    (written_part _ _ _ _ _ (rw h.0 at (c.answer_to_kept-answer.ensures _ _ (c.extend.ensures _ _ h.2))) (rw c.bytes_of-2.ensures at c.in_err-write_all-2.ensures.part)))
