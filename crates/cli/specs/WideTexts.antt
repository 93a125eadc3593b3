-- Why a policy in the wide language is refused, as a text.
use Rattle.std.specs.Prelude.{ℕ, List, [], ◌∷◌, ◌++◌, codes, decimal, Option, Some, None, string_bytes}
use Rattle.cli.specs.Refusals.{uncompiled_text}
use Rattle.policy_glue.specs.CompileErrors.{kind_text}
use Rattle.policy_glue.specs.ErrorCodes.{policy_error_code}
use Rattle.policy_glue.specs.declared.part_kind.PartKind.{PartKind}
use Rattle.wide_translation.specs.declared.translation_error.TranslationError.{TranslationError}
use Rattle.wide_translation.specs.declared.translation_error.TranslationError.TheVariants as translation_error
use Rattle.wide_policy.specs.Errors.{wide_error_code, wide_error_place}
use Rattle.wide_policy.specs.declared.expression_error.WideExpressionError.{WideExpressionError}
use Rattle.wide_policy.specs.declared.expression_error.WideExpressionError.TheVariants as expression_error
use Rattle.wide_policy.specs.declared.wide_policy_error.WidePolicyError.{WidePolicyError}
use Rattle.wide_policy.specs.declared.wide_policy_error.WidePolicyError.TheVariants as wide_error
use Rattle.admission.specs.declared.wide_refusal.WideRefusal.{WideRefusal}
use Rattle.admission.specs.declared.wide_refusal.WideRefusal.TheVariants as wide_refusal

-- the name that an expression has no translation for, after a space
abbrev pub name_text : TranslationError → List ℕ
name_text (translation_error.UnknownName n) = codes " " ++ string_bytes n
name_text (translation_error.TakenName n) = codes " " ++ string_bytes n
name_text _ = []

abbrev pub named_text : WideExpressionError → List ℕ
named_text (expression_error.Untranslated e) = name_text e
named_text _ = []

-- the byte at which an expression is refused, counted from 0
abbrev pub place_text : Option ℕ → List ℕ
place_text None = []
place_text (Some n) = codes " at " ++ decimal n

-- why an expression is refused: its code, a name, and the byte
abbrev pub wide_cause_text : WideExpressionError → List ℕ
wide_cause_text e = wide_error_code e ++ (named_text e ++ place_text (wide_error_place e))

-- an expression is refused: the kind of its part, and the part's place, counted from 0
abbrev pub part_text : PartKind → ℕ → List ℕ
part_text part place = codes "K6 " ++ (kind_text part ++ (codes " " ++ (decimal place ++ codes " ")))

-- why a document is no policy in the wide language: for an expression its part and the cause
abbrev pub wide_policy_text : WidePolicyError → List ℕ
wide_policy_text (wide_error.Unread e) = policy_error_code e
wide_policy_text wide_error.HasAuditAnnotations = codes "K3 auditAnnotations"
wide_policy_text (wide_error.InvalidExpression part place e) = part_text part place ++ wide_cause_text e
wide_policy_text wide_error.Memory = codes "memory"

-- why it gives no image
abbrev pub wide_text : WideRefusal → List ℕ
wide_text (wide_refusal.Unread e) = wide_policy_text e
wide_text (wide_refusal.Uncompiled e) = uncompiled_text e
wide_text wide_refusal.Memory = codes "memory"

-- the line of standard error
abbrev pub wide_line : WideRefusal → List ℕ
wide_line e = codes "celbpf: " ++ (wide_text e ++ 10 ∷ [])
