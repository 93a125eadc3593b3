-- Proof obligations of `expression::expression`.
use Rattle.std.proofs.Common.{◌∙◌, sym}
use Rattle.wide_policy.specs.Errors.{from_writer}
use Rattle.wide_policy.specs.Returns.{ReturnsExpression}
use Rattle.wide_policy.proofs.Expressions.{expression_is, handed_on, optional_is, unwritten_by}
use Rattle.wide_policy.proofs.expression.expression.Goals as goal

pub returns-in_err-translated : goal.returns-in_err-translated
returns-in_err-translated c =
    handed_on (ReturnsExpression c.args.part c.args.scope.now c.args.text.now) c.in_err-translated.field-0.0 c.from_residual.result
    c.in_err-translated.ensures c.from_residual.ensures.0 c.from_residual.ensures.1

pub returns : goal.returns
returns c =
    λ some. optional_is c.args.part c.args.scope.now c.args.text.now c.in_ok-translated.translated c.in_ok-translated.ensures (sym c.fits.ensures ∙ c.if-fits.false)

pub returns-in_err-text : goal.returns-in_err-text
returns-in_err-text c =
    handed_on (ReturnsExpression c.args.part c.args.scope.now c.args.text.now) (from_writer c.in_err-text.field-0.0) c.from_residual-in_err-text.result
    (unwritten_by c.args.part c.args.scope.now c.args.text.now c.in_ok-translated.translated c.in_ok-translated.ensures c.in_err-text.field-0.0 (sym c.fits.ensures ∙ c.if-fits.true) c.in_err-text.ensures)
    c.from_residual-in_err-text.ensures.0 c.from_residual-in_err-text.ensures.1

pub returns-then-fits : goal.returns-then-fits
returns-then-fits c =
    expression_is c.args.part c.args.scope.now c.args.text.now c.in_ok-translated.translated c.in_ok-translated.ensures c.in_ok-text.text (sym c.fits.ensures ∙ c.if-fits.true) c.in_ok-text.ensures
