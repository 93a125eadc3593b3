-- Loop invariants of the functions of the cycle `has_reach` (src/judging.rt): what the items from here on are decides what
-- all are.
use Rattle.std.proofs.Common.{◌≡◌, drop}
use Rattle.wide_reach.specs.Scope.{names_in}
use Rattle.wide_reach.proofs.ListSteps.{known_items}
use Rattle.wide_reach.proofs.judging.+has_reach.Given as goal

abbrev pub invariant-items-loop-item : goal.invariant-items-loop-item
invariant-items-loop-item l = known_items (names_in l.scope) l.given ≡ known_items (names_in l.scope) (drop l.item-index l.given)
