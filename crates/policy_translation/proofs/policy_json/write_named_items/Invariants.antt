-- Loop invariant of `policy_json::write_named_items`.

use Rattle.std.proofs.Common.{◌∷◌, take}
use Rattle.std.specs.Prelude.{flat_map}
use Rattle.json.specs.Token.{begin_array}
use Rattle.policy_glue.specs.Policy.{named_view}
use Rattle.policy_glue.specs.ResponseTokens.{AddsTokens}
use Rattle.policy_translation.specs.TranslationText.{named_data}
use Rattle.policy_translation.specs.TranslationTokens.{data_tokens}
use Rattle.policy_translation.proofs.policy_json.write_named_items.Given as goal

abbrev pub invariant-loop-item : goal.invariant-loop-item
invariant-loop-item l =
    AddsTokens l.fn.writer l.writer (begin_array ∷ flat_map (λ n. data_tokens (named_data (named_view n))) (take l.item-index l.named))
