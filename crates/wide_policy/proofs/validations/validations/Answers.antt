-- Proof obligations of `validations::validations`.
use Rattle.std.proofs.Common.{length, map}
use Rattle.policy_glue.specs.Policy.{validation_view}
use Rattle.wide_policy.specs.Returns.{ReturnsValidations}
use Rattle.wide_policy.specs.Taking.{TakesWideValidation, RefusesWideValidation}
use Rattle.wide_policy.proofs.Expressions.{handed_on}
use Rattle.wide_policy.proofs.Walks.{validations_step, walk_end, walk_fail}
use Rattle.wide_policy.proofs.validations.validations.Goals as goal

pub returns-in_err-pair : goal.returns-in_err-pair
returns-in_err-pair c =
    let go = c.loop-place.invariant in
    let all = map validation_view c.args.validations.now in
    handed_on (ReturnsValidations c.args.rule c.args.scope.now all) c.in_err-pair.field-0.0 c.from_residual.result
    (λ some. walk_fail (λ before n r. TakesWideValidation c.args.rule c.args.scope.now n r) (λ before n e. RefusesWideValidation c.args.rule c.args.scope.now (length before) n e)
    validation_view c.args.validations.now all c.loop-place.place go.taken _ _
    c.loop-place-test.true c.index-validations-place.is go.walks (rw (← go.walks.count) at (c.in_err-pair.ensures some)))
    c.from_residual.ensures.0 c.from_residual.ensures.1

pub loop-place-preserved : goal.loop-place-preserved
loop-place-preserved c =
    let one = c.in_ok-pair.ensures in
    validations_step validation_view c.args.validations.now (map validation_view c.args.validations.now) c.loop-place.place c.args.rule c.args.scope.now _ one.0 _ _ _
    c.loop-place-test.true c.index-validations-place.is c.loop-place.invariant one.1 one.2 c.in_ok-add.ensures

pub returns : goal.returns
returns c =
    let go = c.loop-place.invariant in (
      go.taken,
      walk_end (λ before n r. TakesWideValidation c.args.rule c.args.scope.now n r) (λ before n e. RefusesWideValidation c.args.rule c.args.scope.now (length before) n e)
          validation_view c.args.validations.now (map validation_view c.args.validations.now) c.loop-place.place go.taken c.loop-place-test.false go.walks,
      go.lists_are,
    )
