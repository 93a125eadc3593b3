-- Proof obligations of `ordering::order_of`.
use Rattle.gatekeeper_runner.proofs.Prelude.{◌∙◌, is_err, sym}
use Rattle.gatekeeper_runner.proofs.Choices.{asks_for, asks_lines, not_asked}
use Rattle.gatekeeper_runner.proofs.ordering.order_of.Goals as goal

pub returns-in_err-translation_of : goal.returns-in_err-translation_of
returns-in_err-translation_of c =
    rw (is_err c.from_residual.ensures.1)
    (not_asked _ (sym c.asks_translation.ensures ∙ c.if-asks_translation.true) _ c.in_err-translation_of.ensures)

pub returns-then-asks_translation : goal.returns-then-asks_translation
returns-then-asks_translation c =
    let takes = c.in_ok-translation_of.ensures in
    asks_for _ (sym c.asks_translation.ensures ∙ c.if-asks_translation.true) c.in_ok-translation_of.field-0 takes.0 takes.1

pub returns : goal.returns
returns c = asks_lines _ c.lines_order_of.result (sym c.asks_translation.ensures ∙ c.if-asks_translation.false) c.lines_order_of.ensures
