-- Proofs of `writing::translation_text`: the result meets the contract.

use Rattle.std.proofs.Common.{[], ◌∙◌, ◌∷◌, ◌++◌, ap}
use Rattle.policy_translation.proofs.TranslationTexts.{text_of_views}
use Rattle.policy_glue.specs.Policy.{policy_view}
use Rattle.policy_translation.proofs.writing.translation_text.Goals as goal

pub returns : goal.returns
returns c =
    c.in_ok-extend_from_slice.ensures.items ∙ ap (λ text. text ++ 10 ∷ []) c.into_inner-text.ensures.items
    ∙ text_of_views (policy_view c.into_parts-source.result) (policy_view c.into_parts-profile.result) c.args.policy.source c.args.policy.profile _ _
    c.into_parts-source.ensures.parts c.into_parts-profile.ensures.parts (c.new-writer.ensures.before ∙ c.new.ensures.items) c.new-writer.ensures.tokens
    c.in_ok-write_policy.ensures
