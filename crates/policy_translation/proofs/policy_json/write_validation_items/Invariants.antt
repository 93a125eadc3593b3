-- Loop invariant of `policy_json::write_validation_items`.

use Rattle.std.proofs.Common.{◌∷◌, take}
use Rattle.std.specs.Prelude.{flat_map}
use Rattle.json.specs.Token.{begin_array}
use Rattle.policy_glue.specs.Policy.{validation_view}
use Rattle.policy_glue.specs.ResponseTokens.{AddsTokens}
use Rattle.policy_translation.specs.TranslationText.{validation_data}
use Rattle.policy_translation.specs.TranslationTokens.{data_tokens}
use Rattle.policy_translation.proofs.policy_json.write_validation_items.Given as goal

abbrev pub invariant-loop-validation : goal.invariant-loop-validation
invariant-loop-validation l =
    AddsTokens l.fn.writer l.writer (begin_array ∷ flat_map (λ v. data_tokens (validation_data (validation_view v))) (take l.validation-index l.validations))
