-- Proofs of `checking::validation_at`: the result meets the contract.

use Rattle.policy_glue.proofs.Prelude.{arith, ChecksValidation, validation_view}
use Rattle.policy_glue.proofs.Judged.{passed_on, rule_is, rule_unexpressed, rule_unsaid}
use Rattle.policy_glue.proofs.checking.validation_at.Goals as goal

pub returns-in_err-expression : goal.returns-in_err-expression
returns-in_err-expression c = grind (arith, passed_on, rule_unexpressed)

pub returns-in_err-message : goal.returns-in_err-message
returns-in_err-message c =
    let n = validation_view c.args.validation.now in
    let sorts = rw c.as_str-text.ensures.value at c.in_ok-expression.ensures in
    let unsaid = rule_unsaid c.args.scope.now c.args.place n c.in_ok-expression.expression c.in_err-message.field-0.0 sorts c.in_err-message.ensures.sorts in
    passed_on (ChecksValidation c.args.scope.now c.args.place n) _ _ unsaid c.from_residual-in_err-message.ensures.0 c.from_residual-in_err-message.ensures.1

pub returns : goal.returns
returns c =
    rule_is c.args.scope.now c.args.place (validation_view c.args.validation.now) _ (rw c.as_str-text.ensures.value at c.in_ok-expression.ensures)
    c.in_ok-message.ensures.sorts
