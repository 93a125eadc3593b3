-- Proof obligations of `named::variables`.
use Rattle.std.proofs.Common.{[], ap, map, refl}
use Rattle.policy_glue.specs.Policy.{named_view}
use Rattle.wide_policy.specs.Returns.{ReturnsVariables}
use Rattle.wide_policy.specs.Taking.{TakesWideVariable, RefusesWideVariable}
use Rattle.wide_policy.proofs.Expressions.{handed_on}
use Rattle.wide_policy.proofs.Walks.{variables_step, walk_end, walk_fail}
use Rattle.wide_policy.proofs.named.variables.Goals as goal

pub loop-place-init : goal.loop-place-init
loop-place-init c = record {
  taken = [];
  walks = record { count = refl; goes = λ end h. h };
  scope_is = c.new-scope.ensures;
  list_is = ap (map named_view) c.new-taken.ensures.items;
}

pub returns-in_err-add_variable : goal.returns-in_err-add_variable
returns-in_err-add_variable c =
    let go = c.loop-place.invariant in
    handed_on (ReturnsVariables c.args.wrapped (map named_view c.args.named.now)) c.in_err-add_variable.field-0.0 c.from_residual.result
    (λ some. walk_fail (TakesWideVariable c.args.wrapped) (RefusesWideVariable c.args.wrapped) named_view c.args.named.now (map named_view c.args.named.now) c.loop-place.place go.taken _ _
    c.loop-place-test.true c.index-named-place.is go.walks (rw (go.scope_is, ← go.walks.count) at (c.in_err-add_variable.ensures some)))
    c.from_residual.ensures.0 c.from_residual.ensures.1

pub loop-place-preserved : goal.loop-place-preserved
loop-place-preserved c =
    variables_step named_view c.args.named.now (map named_view c.args.named.now) c.loop-place.place c.args.wrapped _ _ _ _ _
    c.loop-place-test.true c.index-named-place.is c.loop-place.invariant c.in_ok-add_variable.ensures

pub returns : goal.returns
returns c =
    let go = c.loop-place.invariant in (
      go.taken,
      walk_end (TakesWideVariable c.args.wrapped) (RefusesWideVariable c.args.wrapped) named_view c.args.named.now (map named_view c.args.named.now) c.loop-place.place go.taken c.loop-place-test.false go.walks,
      go.scope_is,
      go.list_is,
    )
