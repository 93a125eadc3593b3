-- Proofs of `policy_json::write_validations`: the result meets the contract.

use Rattle.std.proofs.Common.{codes, map}
use Rattle.policy_glue.specs.Policy.{validation_view}
use Rattle.policy_translation.specs.TranslationText.{array_in, validation_data}
use Rattle.policy_translation.proofs.TranslationTexts.{member_last}
use Rattle.policy_translation.proofs.policy_json.write_validations.Goals as goal

pub returns : goal.returns
returns c =
    member_last c.write_validation_items.new.writer (codes "validations") (array_in (map validation_data (map validation_view c.args.validations.now)))
    c.write_validation_items.result c.in_ok-key.ensures c.write_validation_items.ensures
