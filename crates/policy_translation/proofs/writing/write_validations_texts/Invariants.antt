-- Loop invariant of `writing::write_validations_texts`.

use Rattle.std.proofs.Common.{map, take}
use Rattle.policy_glue.specs.Policy.{validation_view}
use Rattle.policy_translation.specs.TranslationText.{validations_texts}
use Rattle.policy_translation.specs.TranslationTokens.{AddsMembers}
use Rattle.policy_translation.proofs.writing.write_validations_texts.Given as goal

abbrev pub invariant-loop-place : goal.invariant-loop-place
invariant-loop-place l = AddsMembers l.fn.writer l.writer (validations_texts 0 (map validation_view (take l.place l.validations)))
