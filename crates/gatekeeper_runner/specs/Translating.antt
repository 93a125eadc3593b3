-- What is written for a policy that is translated, and how the program ends.
use Rattle.std.specs.Prelude.{ℕ, List, Option, Result, Ok, Err}
use Rattle.host.specs.FileSystem.{FileSystem, IsReading}
use Rattle.wide_policy.specs.declared.message_rule.MessageRule.{MessageRule}
use Rattle.wide_policy.specs.declared.policy.WidePolicy.{WidePolicy}
use Rattle.admission.specs.declared.language.Language.TheVariants.{Wide}
use Rattle.clap.specs.Words.{Text}
use Rattle.gatekeeper_runner.specs.Cluster.Telling.{note_lines}
use Rattle.gatekeeper_runner.specs.Orders.{TranslationOrder}
use Rattle.gatekeeper_runner.specs.Policies.Starting.{HasFileFault, IsUnopened}
use Rattle.gatekeeper_runner.specs.Policies.Together.{label_of}
use Rattle.policy_translation.specs.Translations.{HasTranslation}
use Rattle.policy_translation.specs.TranslationText.{translation_text}
use Rattle.gatekeeper_runner.specs.declared.file_fault.FileFault.{FileFault}
use Rattle.gatekeeper_runner.specs.declared.start_refusal.StartRefusal.{StartRefusal}
use Rattle.gatekeeper_runner.specs.declared.translating.translation.Translation.{Translation as CodeTranslation}

-- what is written: to standard error for the message expressions that are left out, and to standard output
pub record TranslationTexts : Type 0 where
  pub notes : List ℕ
  pub text : List ℕ

-- the name by which the policy in a file is told of
abbrev pub told_name : Text → MessageRule → List ℕ → List ℕ
told_name file rule document = (label_of (record { file = file; language = Wide rule; document = document })).name

-- what is written for the policy in a file
abbrev pub written_for : Text → MessageRule → List ℕ → WidePolicy → TranslationTexts
written_for file rule document p = record {
  notes = note_lines (told_name file rule document) p.left_out.items;
  text = translation_text p.source p.profile;
}

-- what is written for the policy in the file, or why nothing is: what a start under this policy is refused for
pub data Translates (known : Option FileSystem) (order : TranslationOrder) : Result TranslationTexts StartRefusal → Type 0 where
  refused : {r : StartRefusal} → IsUnopened known (Wide order.rule) order.file r → Translates known order (Err r)
  translated : {document : List ℕ} {p : WidePolicy} → IsReading known order.file (Ok document) → HasTranslation order.rule document p
      → Translates known order (Ok (written_for order.file order.rule document p))

-- ---- the code's

abbrev pub translation_view : CodeTranslation → TranslationTexts
translation_view t = record { notes = t.notes.items; text = t.text.items }

-- the translation of the policy in the file, or what is wrong with the file
abbrev pub TranslatesFile : Option FileSystem → TranslationOrder → Result CodeTranslation FileFault → Type 0
TranslatesFile known order (Ok t) = Translates known order (Ok (translation_view t))
TranslatesFile known order (Err f) = HasFileFault known (Wide order.rule) order.file f

-- the translation of the policy in the file, or why there is none
abbrev pub TranslatesFrom : Option FileSystem → TranslationOrder → Result CodeTranslation StartRefusal → Type 0
TranslatesFrom known order (Ok t) = Translates known order (Ok (translation_view t))
TranslatesFrom known order (Err r) = Translates known order (Err r)
