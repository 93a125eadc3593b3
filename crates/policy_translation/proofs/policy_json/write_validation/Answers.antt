-- Proofs of `policy_json::write_validation`: the result meets the contract.

use Rattle.policy_glue.specs.Policy.{validation_view}
use Rattle.policy_translation.proofs.TranslationTexts.{validation_whole}
use Rattle.policy_translation.proofs.policy_json.write_validation.Goals as goal

pub returns : goal.returns
returns c =
    validation_whole c.end_object.result (validation_view c.args.validation.now) c.in_ok-begin_object.ensures
    (rw c.as_str.ensures.value at c.in_ok-write_text.ensures)
    (rw c.as_str-2.ensures.value at c.in_ok-write_message.ensures)
    c.in_ok-write_option.ensures
    (rw c.name.ensures at c.in_ok-write_text-2.ensures)
    c.end_object.ensures
