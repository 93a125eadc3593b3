-- Loop invariant of `writing::write_named_texts`.

use Rattle.std.proofs.Common.{map, take}
use Rattle.policy_glue.specs.Policy.{named_view}
use Rattle.policy_translation.specs.TranslationText.{named_texts}
use Rattle.policy_translation.specs.TranslationTokens.{AddsMembers}
use Rattle.policy_translation.proofs.writing.write_named_texts.Given as goal

abbrev pub invariant-loop-place : goal.invariant-loop-place
invariant-loop-place l = AddsMembers l.fn.writer l.writer (named_texts l.part 0 (map named_view (take l.place l.named)))
