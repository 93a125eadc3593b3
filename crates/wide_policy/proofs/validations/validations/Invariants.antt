-- Loop invariant of `validations::validations`.
use Rattle.std.proofs.Common.{drop, map}
use Rattle.policy_glue.specs.Policy.{validation_view}
use Rattle.wide_policy.proofs.Walks.{ValidationsGo}
use Rattle.wide_policy.proofs.validations.validations.Given as goal

abbrev pub invariant-loop-place : goal.invariant-loop-place
invariant-loop-place l = ValidationsGo l.rule l.scope (map validation_view l.validations) (map validation_view (drop l.place l.validations)) l.place l.taken
