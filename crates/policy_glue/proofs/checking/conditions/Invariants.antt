-- Loop invariant of `checking::conditions`.

use Rattle.policy_glue.proofs.Prelude.{drop, map, expanded, core_view, IsWellFormed, RefusesCondition, TakesCondition, named_view}
use Rattle.policy_glue.proofs.Judged.{Walked}
use Rattle.policy_glue.proofs.checking.conditions.Given as goal

abbrev pub invariant-loop-place : goal.invariant-loop-place
invariant-loop-place l =
    Walked TakesCondition RefusesCondition expanded IsWellFormed
    (map named_view l.named) (map named_view (drop l.place l.named)) l.place (map core_view l.cores.items)
