-- Proof obligations of `policy::translated`.
use Rattle.std.proofs.Common.{◌∙◌, Err, Ok, map, refl}
use Rattle.policy_glue.specs.Policy.{named_view, validation_view}
use Rattle.wide_policy.specs.Returns.{ReturnsConditions, ReturnsPolicy, ReturnsValidations, ReturnsVariables}
use Rattle.wide_policy.proofs.Expressions.{handed_on}
use Rattle.wide_policy.proofs.Wholes.{variables_refused, conditions_refused, validations_refused, parts_of, parts_end, source_is, profile_is, source_may, profile_may}
use Rattle.wide_policy.proofs.policy.translated.Goals as goal

pub returns-in_err-scope : goal.returns-in_err-scope
returns-in_err-scope c =
    handed_on (ReturnsPolicy c.args.wrapped c.args.rule c.args.parsed) c.in_err-scope.field-0.0 c.from_residual.result
    (variables_refused c.args.wrapped c.args.rule c.args.parsed c.into_parts-failure_policy.result c.into_parts-failure_policy.ensures.parts c.in_err-scope.field-0.0
    (rw c.as_slice.ensures.value at c.in_err-scope.ensures))
    c.from_residual.ensures.0 c.from_residual.ensures.1

pub returns-in_err-conditions : goal.returns-in_err-conditions
returns-in_err-conditions c =
    let own = c.into_parts-failure_policy.result in
    let v : ReturnsVariables c.args.wrapped (map named_view own.variables.items) (Ok (c.in_ok-scope.scope, c.in_ok-scope.variables)) = rw c.as_slice.ensures.value at c.in_ok-scope.ensures in
    handed_on (ReturnsPolicy c.args.wrapped c.args.rule c.args.parsed) c.in_err-conditions.field-0.0 c.from_residual-in_err-conditions.result
    (conditions_refused c.args.wrapped c.args.rule c.args.parsed own c.into_parts-failure_policy.ensures.parts c.in_ok-scope.scope c.in_ok-scope.variables v c.in_err-conditions.field-0.0
    (rw c.as_slice-2.ensures.value at c.in_err-conditions.ensures))
    c.from_residual-in_err-conditions.ensures.0 c.from_residual-in_err-conditions.ensures.1

pub returns-in_err-taken : goal.returns-in_err-taken
returns-in_err-taken c =
    let own = c.into_parts-failure_policy.result in
    let v : ReturnsVariables c.args.wrapped (map named_view own.variables.items) (Ok (c.in_ok-scope.scope, c.in_ok-scope.variables)) = rw c.as_slice.ensures.value at c.in_ok-scope.ensures in
    let d : ReturnsConditions c.args.wrapped (map named_view own.conditions.items) (Ok c.in_ok-conditions.conditions) = rw c.as_slice-2.ensures.value at c.in_ok-conditions.ensures in
    let s : ReturnsValidations c.args.rule c.in_ok-scope.scope (map validation_view own.validations.items) (Err c.in_err-taken.field-0.0) =
    rw c.as_slice-3.ensures.value at c.in_err-taken.ensures in
    handed_on (ReturnsPolicy c.args.wrapped c.args.rule c.args.parsed) c.in_err-taken.field-0.0 c.from_residual-in_err-taken.result
    (validations_refused c.args.wrapped c.args.rule c.args.parsed own c.into_parts-failure_policy.ensures.parts c.in_ok-scope.scope c.in_ok-scope.variables v c.in_ok-conditions.conditions d c.in_err-taken.field-0.0 s)
    c.from_residual-in_err-taken.ensures.0 c.from_residual-in_err-taken.ensures.1

pub of_parts-source-requires : goal.of_parts-source-requires
of_parts-source-requires c =
    let own = c.into_parts-failure_policy.result in
    let v : ReturnsVariables c.args.wrapped (map named_view own.variables.items) (Ok (c.in_ok-scope.scope, c.in_ok-scope.variables)) = rw c.as_slice.ensures.value at c.in_ok-scope.ensures in
    let d : ReturnsConditions c.args.wrapped (map named_view own.conditions.items) (Ok c.in_ok-conditions.conditions) = rw c.as_slice-2.ensures.value at c.in_ok-conditions.ensures in
    let s : ReturnsValidations c.args.rule c.in_ok-scope.scope (map validation_view own.validations.items) (Ok c.in_ok-taken.taken) =
    rw c.as_slice-3.ensures.value at c.in_ok-taken.ensures in
    source_may c.args.wrapped c.args.rule c.args.parsed own c.into_parts-failure_policy.ensures.parts c.in_ok-scope.scope c.in_ok-scope.variables v c.in_ok-conditions.conditions d c.in_ok-taken.taken s
    c.into_parts-failure_policy.ensures.accepted

pub of_parts-profile-requires : goal.of_parts-profile-requires
of_parts-profile-requires c =
    let own = c.into_parts-failure_policy.result in
    let v : ReturnsVariables c.args.wrapped (map named_view own.variables.items) (Ok (c.in_ok-scope.scope, c.in_ok-scope.variables)) = rw c.as_slice.ensures.value at c.in_ok-scope.ensures in
    let d : ReturnsConditions c.args.wrapped (map named_view own.conditions.items) (Ok c.in_ok-conditions.conditions) = rw c.as_slice-2.ensures.value at c.in_ok-conditions.ensures in
    let s : ReturnsValidations c.args.rule c.in_ok-scope.scope (map validation_view own.validations.items) (Ok c.in_ok-taken.taken) =
    rw c.as_slice-3.ensures.value at c.in_ok-taken.ensures in
    profile_may c.args.wrapped c.args.rule c.args.parsed own c.into_parts-failure_policy.ensures.parts c.in_ok-scope.scope c.in_ok-scope.variables v c.in_ok-conditions.conditions d c.in_ok-taken.taken s
    c.into_parts-failure_policy.ensures.accepted

pub returns : goal.returns
returns c =
    let own = c.into_parts-failure_policy.result in
    let is = c.into_parts-failure_policy.ensures.parts in
    let v : ReturnsVariables c.args.wrapped (map named_view own.variables.items) (Ok (c.in_ok-scope.scope, c.in_ok-scope.variables)) = rw c.as_slice.ensures.value at c.in_ok-scope.ensures in
    let d : ReturnsConditions c.args.wrapped (map named_view own.conditions.items) (Ok c.in_ok-conditions.conditions) = rw c.as_slice-2.ensures.value at c.in_ok-conditions.ensures in
    let s : ReturnsValidations c.args.rule c.in_ok-scope.scope (map validation_view own.validations.items) (Ok c.in_ok-taken.taken) =
    rw c.as_slice-3.ensures.value at c.in_ok-taken.ensures in (
      parts_of c.args.wrapped c.args.rule c.args.parsed own is c.in_ok-scope.scope c.in_ok-scope.variables v c.in_ok-conditions.conditions d c.in_ok-taken.taken s,
      parts_end c.args.wrapped c.args.rule c.args.parsed own is c.in_ok-scope.scope c.in_ok-scope.variables v c.in_ok-conditions.conditions d c.in_ok-taken.taken s,
      record {
        wrapped_is = refl;
        source = c.of_parts-source.ensures ∙ source_is c.args.wrapped c.args.rule c.args.parsed own is c.in_ok-scope.scope c.in_ok-scope.variables v c.in_ok-conditions.conditions d c.in_ok-taken.taken s;
        profile = c.of_parts-profile.ensures ∙ profile_is c.args.wrapped c.args.rule c.args.parsed own is c.in_ok-scope.scope c.in_ok-scope.variables v c.in_ok-conditions.conditions d c.in_ok-taken.taken s;
        left_out = s.2.left_out;
      },
    )
