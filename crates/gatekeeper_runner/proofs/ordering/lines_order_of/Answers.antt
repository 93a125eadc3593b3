-- Proof obligations of `ordering::lines_order_of`.
use Rattle.gatekeeper_runner.proofs.Prelude.{◌≡◌, ◌∙◌, List, ap, entered, false, go_together, is_err, map, sym, true, Text}
use Rattle.gatekeeper_runner.proofs.Choices.{not_taken, not_together, taken}
use Rattle.gatekeeper_runner.proofs.ordering.lines_order_of.Goals as goal

pub returns-in_err-matches : goal.returns-in_err-matches
returns-in_err-matches c = rw (is_err c.from_residual.ensures.1) (not_taken _ _ c.in_err-matches.ensures.taken)

pub returns-then-not-go_together : goal.returns-then-not-go_together
returns-then-not-go_together c =
    let texts : List Text = map (λ s. s.now) c.args.words.now in
    let apart : go_together (entered texts) ≡ false = sym (ap go_together c.in_ok-matches.ensures.rows) ∙ sym c.go_together.ensures ∙ c.if-not-go_together.true in
    not_together texts apart

pub returns : goal.returns
returns c =
    let texts : List Text = map (λ s. s.now) c.args.words.now in
    let together : go_together (entered texts) ≡ true = sym (ap go_together c.in_ok-matches.ensures.rows) ∙ sym c.go_together.ensures ∙ c.if-not-go_together.false in
    (taken texts c.in_ok-matches.ensures.taken.0 together, rw c.in_ok-matches.ensures.rows at (sym c.in_ok-order_from.ensures))
