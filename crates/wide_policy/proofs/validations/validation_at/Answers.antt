-- Proof obligations of `validations::validation_at`.
use Rattle.std.proofs.Common.{◌∙◌, refl, string_bytes}
use Rattle.policy_glue.specs.Policy.{validation_view}
use Rattle.wide_policy.specs.Returns.{ReturnsValidation}
use Rattle.wide_policy.proofs.Expressions.{handed_on}
use Rattle.wide_policy.proofs.Messages.{pair_is, unexpressed, unsaid}
use Rattle.wide_policy.proofs.validations.validation_at.Goals as goal

pub returns-in_err-expression : goal.returns-in_err-expression
returns-in_err-expression c =
    let n = validation_view c.args.validation.now in
    handed_on (ReturnsValidation c.args.rule c.args.place c.args.scope.now n) c.in_err-expression.field-0.0 c.from_residual.result
    (unexpressed c.args.rule c.args.scope.now c.args.place n c.in_err-expression.field-0.0 (rw c.as_str-text.ensures.value at c.in_err-expression.ensures))
    c.from_residual.ensures.0 c.from_residual.ensures.1

pub returns-in_err-message : goal.returns-in_err-message
returns-in_err-message c =
    let n = validation_view c.args.validation.now in
    handed_on (ReturnsValidation c.args.rule c.args.place c.args.scope.now n) c.in_err-message.field-0.0 c.from_residual-in_err-message.result
    (unsaid c.args.rule c.args.scope.now c.args.place n c.in_ok-expression.field-0-0 (string_bytes c.in_ok-expression.expression) c.in_err-message.field-0.0
    (rw c.as_str-text.ensures.value at c.in_ok-expression.ensures) c.in_err-message.ensures)
    c.from_residual-in_err-message.ensures.0 c.from_residual-in_err-message.ensures.1

pub returns : goal.returns
returns c =
    let n = validation_view c.args.validation.now in
    pair_is c.args.rule c.args.scope.now c.args.place n c.in_ok-expression.field-0-0 c.in_ok-own.own c.in_ok-expression.expression c.in_ok-message.message
    (record { source = c.in_ok-source.source; profile = c.in_ok-profile.profile; refusal = c.in_ok-message.message.refusal })
    (rw c.as_str-text.ensures.value at c.in_ok-expression.ensures) c.in_ok-message.ensures (c.in_ok-own.ensures.ok ∙ c.as_str-text.ensures.value)
    c.in_ok-source.ensures c.in_ok-profile.ensures refl
