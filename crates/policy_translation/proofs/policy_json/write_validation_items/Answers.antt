-- Proofs of `policy_json::write_validation_items`: the result meets the contract; the loop invariant holds at first and is kept.

use Rattle.policy_translation.proofs.Tokens.{one}
use Rattle.policy_glue.specs.Policy.{validation_view}
use Rattle.policy_translation.specs.TranslationText.{validation_data}
use Rattle.policy_translation.proofs.TranslationTexts.{items_last, items_more}
use Rattle.policy_translation.proofs.policy_json.write_validation_items.Goals as goal

pub loop-validation-init : goal.loop-validation-init
loop-validation-init c = one c.in_ok-begin_array.ensures

pub loop-validation-preserved : goal.loop-validation-preserved
loop-validation-preserved c =
    items_more validation_data validation_view c.args.validations.now _ c.validation-item.result c.loop-validation-test.true c.validation-item.is c.loop-validation.invariant c.in_ok-write_validation.ensures

pub returns : goal.returns
returns c = items_last validation_data validation_view c.args.validations.now _ c.loop-validation-test.false c.end_array.result c.loop-validation.invariant c.end_array.ensures
