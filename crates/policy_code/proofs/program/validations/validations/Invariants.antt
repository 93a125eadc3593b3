-- Loop invariant of `program::validations::validations`.

use Rattle.policy_code.proofs.Prelude.{◌≡◌, drop, map, validation_trees, with_validations}
use Rattle.policy_code.proofs.program.validations.validations.Given as goal

abbrev pub invariant-loop-place : goal.invariant-loop-place
invariant-loop-place l =
    with_validations l.failure_policy l.place l.scope l.emitter (map validation_trees (drop l.place l.checked)) ≡ with_validations l.failure_policy 0 l.scope l.fn.emitter (map validation_trees l.checked)
