-- Loop invariant of `checking::validations`.

use Rattle.policy_glue.proofs.Prelude.{drop, map, IsFormedValidation, validation_expanded, validation_trees, RefusesValidation, TakesValidation, validation_view}
use Rattle.policy_glue.proofs.Judged.{Walked}
use Rattle.policy_glue.proofs.checking.validations.Given as goal

abbrev pub invariant-loop-place : goal.invariant-loop-place
invariant-loop-place l =
    let rest = map validation_view (drop l.place l.validations) in
    Walked (TakesValidation l.scope) (RefusesValidation l.scope) validation_expanded IsFormedValidation (map validation_view l.validations) rest l.place (map validation_trees l.checked.items)
