-- Proof obligations of `named::conditions`.
use Rattle.std.proofs.Common.{[], ◌∷◌, ◌++◌, ◌∙◌, ap, map, refl}
use Rattle.policy_glue.specs.Policy.{named_view}
use Rattle.wide_policy.specs.Returns.{ReturnsConditions}
use Rattle.wide_policy.specs.Taking.{TakesWideCondition, RefusesWideCondition}
use Rattle.wide_policy.proofs.Expressions.{handed_on}
use Rattle.wide_policy.proofs.Walks.{conditions_step, one_pushed, walk_end, walk_fail}
use Rattle.wide_policy.proofs.named.conditions.Goals as goal

pub loop-place-init : goal.loop-place-init
loop-place-init c = record {
  taken = [];
  walks = record { count = refl; goes = λ end h. h };
  list_is = ap (map named_view) c.new-taken.ensures.items;
}

pub returns-in_err-condition : goal.returns-in_err-condition
returns-in_err-condition c =
    let go = c.loop-place.invariant in
    handed_on (ReturnsConditions c.args.wrapped (map named_view c.args.named.now)) c.in_err-condition.field-0.0 c.from_residual.result
    (λ some. walk_fail (TakesWideCondition c.args.wrapped) (RefusesWideCondition c.args.wrapped) named_view c.args.named.now (map named_view c.args.named.now) c.loop-place.place go.taken _ _
    c.loop-place-test.true c.index-named-place.is go.walks (rw (c.new-scope.ensures, ← go.walks.count) at (c.in_err-condition.ensures some)))
    c.from_residual.ensures.0 c.from_residual.ensures.1

pub loop-place-preserved : goal.loop-place-preserved
loop-place-preserved c =
    let one = rw c.new-scope.ensures at c.in_ok-condition.ensures in
    let old = c.loop-place.taken.items in
    conditions_step named_view c.args.named.now (map named_view c.args.named.now) c.loop-place.place c.args.wrapped _ one.0 _ _
    c.loop-place-test.true c.index-named-place.is c.loop-place.invariant one.1
    (one_pushed named_view old c.push.new.self.items _ c.in_ok-push.ensures.items ∙ ap (λ t. map named_view old ++ t ∷ []) one.2)

pub returns : goal.returns
returns c =
    let go = c.loop-place.invariant in (
      go.taken,
      walk_end (TakesWideCondition c.args.wrapped) (RefusesWideCondition c.args.wrapped) named_view c.args.named.now (map named_view c.args.named.now) c.loop-place.place go.taken c.loop-place-test.false go.walks,
      go.list_is,
    )
