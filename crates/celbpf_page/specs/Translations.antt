-- The translation of a policy as clusters store it.
use Rattle.std.specs.Prelude.{◌≡◌, ℕ, List, Result, Ok, Err, Vec}
use Rattle.std.specs.declared.alloc.Global.{Global}
use Rattle.wide_policy.specs.declared.message_rule.MessageRule.TheVariants.{Required}
use Rattle.wide_policy.specs.declared.policy.WidePolicy.{WidePolicy}
use Rattle.admission.specs.Deciding.{OpensWideGate}
use Rattle.admission.specs.declared.wide_refusal.WideRefusal.{WideRefusal}
use Rattle.policy_translation.specs.Translations.{HasTranslation}
use Rattle.policy_translation.specs.TranslationText.{translation_text}
use Rattle.celbpf_calls.specs.Output.{WritesDone, WritesWideRefusal}

-- a text of the code
abbrev pub translation_view : Result (Vec ℕ Global) WideRefusal → Result (List ℕ) WideRefusal
translation_view (Ok text) = Ok text.items
translation_view (Err e) = Err e

-- the text that `gatekeeper --translate` prints for the policy in a document, or why there is no gate of it; or an
-- allocation failed
abbrev pub IsTranslationText : List ℕ → Result (List ℕ) WideRefusal → Type 0
IsTranslationText document (Ok text) =
    (p : WidePolicy) × HasTranslation Required document p × (text ≡ translation_text p.source p.profile)
IsTranslationText document (Err e) = OpensWideGate Required document (Err e)

-- the text or the refusal is written
abbrev pub WritesTranslation : Result (List ℕ) WideRefusal → ℕ → List ℕ → List ℕ → ℕ → Type 0
WritesTranslation (Ok text) status before after n = WritesDone text status before after n
WritesTranslation (Err e) status before after n = WritesWideRefusal e status before after n

-- the translation of the policy in a document is written
abbrev pub TranslatesToRoom : List ℕ → ℕ → List ℕ → List ℕ → ℕ → Type 0
TranslatesToRoom document status before after n =
    (text : Result (List ℕ) WideRefusal) × IsTranslationText document text × WritesTranslation text status before after n
