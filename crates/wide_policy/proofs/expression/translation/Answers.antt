-- Proof obligations of `expression::translation`.
use Rattle.std.proofs.Common.{◌∙◌, sym}
use Rattle.wide_reader.specs.Tree.{view}
use Rattle.wide_policy.specs.Errors.{from_reader, from_translation}
use Rattle.wide_policy.specs.Returns.{ReturnsTranslation}
use Rattle.wide_policy.proofs.Expressions.{handed_on, too_deep_by, translated_is, unread_by, untranslated_by}
use Rattle.wide_policy.proofs.expression.translation.Goals as goal

pub returns-in_err-wide : goal.returns-in_err-wide
returns-in_err-wide c =
    handed_on (ReturnsTranslation c.args.part c.args.scope.now c.args.text.now) (from_reader c.in_err-wide.field-0.0) c.from_residual.result
    (unread_by c.args.part c.args.scope.now c.args.text.now c.in_err-wide.field-0.0 c.in_err-wide.ensures.answers) c.from_residual.ensures.0 c.from_residual.ensures.1

pub returns-then-is_too_deep : goal.returns-then-is_too_deep
returns-then-is_too_deep c =
    too_deep_by c.args.part c.args.scope.now c.args.text.now (view c.in_ok-wide.wide) c.in_ok-wide.ensures.answers (sym c.is_too_deep.ensures ∙ c.if-is_too_deep.true)

pub returns-in_err-translated : goal.returns-in_err-translated
returns-in_err-translated c =
    handed_on (ReturnsTranslation c.args.part c.args.scope.now c.args.text.now) (from_translation c.in_err-translated.field-0.0) c.from_residual-in_err-translated.result
    (untranslated_by c.args.part c.args.scope.now c.args.text.now (view c.in_ok-wide.wide) c.in_err-translated.field-0.0 c.in_ok-wide.ensures.answers (sym c.is_too_deep.ensures ∙ c.if-is_too_deep.false) c.in_err-translated.ensures)
    c.from_residual-in_err-translated.ensures.0 c.from_residual-in_err-translated.ensures.1

pub returns : goal.returns
returns c =
    translated_is c.args.part c.args.scope.now c.args.text.now (view c.in_ok-wide.wide) c.in_ok-translated.field-0 c.in_ok-wide.ensures.answers (sym c.is_too_deep.ensures ∙ c.if-is_too_deep.false) c.in_ok-translated.ensures
