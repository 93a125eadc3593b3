-- Errors of other crates as errors of this one. Out of memory stays `Memory`.
use Rattle.std.specs.Prelude.{ℕ, Bool, true, false, List, Option, None, codes}
use Rattle.cel_tokens.specs.declared.read_error.ReadError.TheVariants as read_error
use Rattle.cel_writer.specs.declared.write_error.WriteError.{WriteError, TheVariants.Unreadable}
use Rattle.cel_writer.specs.declared.write_error.WriteError.TheVariants as write_error
use Rattle.policy_glue.specs.declared.part_kind.PartKind.{PartKind}
use Rattle.policy_glue.specs.declared.policy_error.PolicyError.{PolicyError}
use Rattle.policy_glue.specs.declared.policy_error.PolicyError.TheVariants as policy_error
use Rattle.wide_reader.specs.ErrorCodes.{error_code, error_place}
use Rattle.wide_reader.specs.declared.wide_error.WideReadError.{WideReadError, TheVariants.Text}
use Rattle.wide_translation.specs.declared.translation_error.TranslationError.{TranslationError}
use Rattle.wide_translation.specs.declared.translation_error.TranslationError.TheVariants as translation_error
use Rattle.wide_policy.specs.declared.expression_error.WideExpressionError.{WideExpressionError, TheVariants.Unread, TheVariants.TooDeep, TheVariants.Untranslated, TheVariants.OptionalResult, TheVariants.Unwritten}
use Rattle.wide_policy.specs.declared.expression_error.WideExpressionError.TheVariants as expression_error
use Rattle.wide_policy.specs.declared.wide_policy_error.WidePolicyError.{WidePolicyError, TheVariants.Unread as UnreadPolicy, TheVariants.InvalidExpression}
use Rattle.wide_policy.specs.declared.wide_policy_error.WidePolicyError.TheVariants as wide_error

abbrev pub from_reader : WideReadError → WideExpressionError
from_reader (Text read_error.Memory) = expression_error.Memory
from_reader e = Unread e

abbrev pub from_translation : TranslationError → WideExpressionError
from_translation translation_error.Memory = expression_error.Memory
from_translation e = Untranslated e

abbrev pub from_writer : WriteError → WideExpressionError
from_writer write_error.Memory = expression_error.Memory
from_writer Unreadable = Unwritten

abbrev pub from_policy : PolicyError → WidePolicyError
from_policy policy_error.Memory = wide_error.Memory
from_policy e = UnreadPolicy e

-- an expression's error as the error of the part at this place
abbrev pub in_part : PartKind → ℕ → WideExpressionError → WidePolicyError
in_part part place expression_error.Memory = wide_error.Memory
in_part part place e = InvalidExpression part place e

-- whether an expression is refused because it needs a table of indices
abbrev pub needs_indices : WidePolicyError → Bool
needs_indices (InvalidExpression part place (Untranslated translation_error.NeedsIndices)) = true
needs_indices _ = false

-- ---- codes

-- the code of an expression that has no translation: W2 for an unsigned int, W4 for an optional value, W6 for an optional
-- entry of a map, W5 for a name or a form that is not supported
abbrev pub translation_code : TranslationError → List ℕ
translation_code (translation_error.UnknownName n) = codes "W5"
translation_code translation_error.OptionalValue = codes "W4"
translation_code (translation_error.TakenName n) = codes "W5"
translation_code translation_error.UnsignedInt = codes "W2"
translation_code translation_error.NeedsIndices = codes "W5"
translation_code translation_error.OptionalEntry = codes "W6"
translation_code translation_error.Unsupported = codes "W5"
translation_code translation_error.Memory = codes "memory"

-- the code of an expression's error: that of its text, W10 if it is too deep, or that of its translation; P6 if the
-- translation is too long, or nests too deep
abbrev pub wide_error_code : WideExpressionError → List ℕ
wide_error_code (Unread e) = error_code e
wide_error_code TooDeep = codes "W10"
wide_error_code (Untranslated e) = translation_code e
wide_error_code OptionalResult = codes "W4"
wide_error_code Unwritten = codes "P6"
wide_error_code expression_error.Memory = codes "memory"

-- the byte at which a text is refused, counted from 0
abbrev pub wide_error_place : WideExpressionError → Option ℕ
wide_error_place (Unread e) = error_place e
wide_error_place TooDeep = None
wide_error_place (Untranslated e) = None
wide_error_place OptionalResult = None
wide_error_place Unwritten = None
wide_error_place expression_error.Memory = None
