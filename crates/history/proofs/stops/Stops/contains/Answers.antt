-- Proof obligations of `Stops::contains` (src/stops.rt).
use Rattle.history.proofs.Prelude.{ℕ, List, ap, ◌∙◌, nat_eq, list_any}
use Rattle.history.proofs.Halving.{found}
use Rattle.history.proofs.stops.Stops.contains.Goals as goal

pub returns-then-self : goal.returns-then-self
returns-then-self c =
    c.is_ok.ensures.value
    ∙ found _ _ _ (c.self.invariant c.if-self.true) c.binary_search.ensures.position
    ∙ ap (λ (slots : List ℕ). list_any (nat_eq c.args.slot) slots) c.self.view_is
