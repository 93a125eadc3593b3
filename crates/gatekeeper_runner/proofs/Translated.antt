-- What is written for a policy that is translated.
use Rattle.gatekeeper_runner.proofs.Prelude.{◌≡◌, ◌∙◌, ℕ, List, [], ◌++◌, Option, Ok, string_bytes, sym, subst, Text}
use Rattle.host.specs.FileSystem.{FileSystem, IsReading}
use Rattle.wide_policy.specs.declared.left_out.LeftOut.{LeftOut}
use Rattle.wide_policy.specs.declared.message_rule.MessageRule.{MessageRule}
use Rattle.wide_policy.specs.declared.policy.WidePolicy.{WidePolicy}
use Rattle.admission.specs.declared.language.Language.TheVariants.{Wide}
use Rattle.gatekeeper_runner.specs.Cluster.Telling.{note_lines}
use Rattle.gatekeeper_runner.specs.Orders.{TranslationOrder}
use Rattle.gatekeeper_runner.specs.Policies.Together.{label_of}
use Rattle.gatekeeper_runner.specs.Refusals.{label_view}
use Rattle.policy_translation.specs.Translations.{HasTranslation}
use Rattle.gatekeeper_runner.specs.Translating.{Translates, TranslationTexts, told_name, translated}
use Rattle.policy_translation.specs.TranslationText.{translation_text}
use Rattle.gatekeeper_runner.specs.declared.policy_label.PolicyLabel.{PolicyLabel}

pub written : (known : Option FileSystem) (order : TranslationOrder) (document : List ℕ) (p : WidePolicy) (t : TranslationTexts) → IsReading known order.file (Ok document)
    → HasTranslation order.rule document p → t.notes ≡ note_lines (told_name order.file order.rule document) p.left_out.items → t.text ≡ translation_text p.source p.profile
    → Translates known order (Ok t)
written known order document p t read has notes text =
    subst (λ (x : TranslationTexts). Translates known order (Ok x)) (λ i. record { notes = sym notes i; text = sym text i }) (translated read has)

-- the lines on what is left out have the name of the label
pub noted : (file : Text) (rule : MessageRule) (document : List ℕ) (label : PolicyLabel) (left : List LeftOut) (old new : List ℕ) → old ≡ []
    → new ≡ old ++ note_lines (string_bytes label.name) left → label_view label ≡ label_of (record { file = file; language = Wide rule; document = document })
    → new ≡ note_lines (told_name file rule document) left
noted file rule document label left old new none added is = added ∙ (λ i. none i ++ note_lines ((is i).name) left)
