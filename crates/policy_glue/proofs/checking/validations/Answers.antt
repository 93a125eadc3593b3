-- Proofs of `checking::validations`: the result meets the contract; each turn of the loop keeps the invariant.

use Rattle.policy_glue.proofs.Prelude.{◌∷◌, [], ◌++◌, ◌∙◌, ap, map, ChecksValidations, validation_trees, validation_view}
use Rattle.policy_glue.proofs.Judged.{passed_on, pushed, walk_ends, walk_fails, walk_steps}
use Rattle.policy_glue.proofs.checking.validations.Goals as goal

pub returns-in_err-validation : goal.returns-in_err-validation
returns-in_err-validation c =
    let go = c.loop-place.invariant in
    passed_on (ChecksValidations c.args.scope.now (map validation_view c.args.validations.now)) c.in_err-validation.field-0.0 c.from_residual.result
    (λ some. walk_fails validation_view c.args.validations.now c.loop-place-test.true c.index-validations-place.is go c.in_err-validation.field-0.0
    (rw (← go.count) at (c.in_err-validation.ensures some)))
    c.from_residual.ensures.0 c.from_residual.ensures.1

pub loop-place-preserved : goal.loop-place-preserved
loop-place-preserved c =
    let checks = c.in_ok-validation.ensures in
    let old = c.loop-place.checked.items in
    walk_steps validation_view c.args.validations.now c.loop-place-test.true c.index-validations-place.is c.loop-place.invariant
    (map validation_trees c.push.new.self.items) checks.0 checks.2 checks.3
    (pushed validation_trees old c.push.new.self.items c.in_ok-validation.validation c.in_ok-push.ensures.items ∙ ap (λ t. map validation_trees old ++ t ∷ []) checks.1)

pub returns : goal.returns
returns c = walk_ends validation_view c.args.validations.now c.loop-place-test.false c.loop-place.invariant
