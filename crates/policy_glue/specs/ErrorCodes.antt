-- The codes of this crate's errors.
use Rattle.std.specs.Prelude.{ℕ, List, Option, None, codes}
use Rattle.cel_macros.specs.ErrorCodes.{macro_error_code}
use Rattle.cel_tokens.specs.ErrorCodes.{read_error_code, read_error_place}
use Rattle.cel_types.specs.ErrorCodes.{type_error_code}
use Rattle.codegen.specs.ErrorCodes.{code_error_code}
use Rattle.codegen.specs.declared.code_error.CodeError.TheVariants as code_error
pub use Rattle.verdicts.specs.ErrorCodes.{policy_error_code}
use Rattle.policy_glue.specs.declared.compile_error.CompileError.{CompileError, TheVariants.InvalidExpression, TheVariants.NotABool, TheVariants.MessageNotAString, TheVariants.TooManyNodes, TheVariants.TooManyTextBytes}
use Rattle.policy_glue.specs.declared.compile_error.CompileError.TheVariants as compile_error
use Rattle.policy_glue.specs.declared.expression_error.ExpressionError.{ExpressionError, TheVariants.Unread, TheVariants.Unexpanded, TheVariants.Untyped, TheVariants.NeedsTooManyWords, TheVariants.VariableTooDeep}
use Rattle.policy_glue.specs.declared.expression_error.ExpressionError.TheVariants as expression_error

-- the code of an expression's error: that of its text, macro or type, or G1, G2 or memory
abbrev pub expression_error_code : ExpressionError → List ℕ
expression_error_code (Unread e) = read_error_code e
expression_error_code (Unexpanded e) = macro_error_code e
expression_error_code (Untyped e) = type_error_code e
expression_error_code NeedsTooManyWords = code_error_code code_error.NeedsTooManyWords
expression_error_code VariableTooDeep = code_error_code code_error.VariableTooDeep
expression_error_code expression_error.Memory = codes "memory"

-- the byte at which a text is refused, counted from 0
abbrev pub expression_error_place : ExpressionError → Option ℕ
expression_error_place (Unread e) = read_error_place e
expression_error_place (Unexpanded e) = None
expression_error_place (Untyped e) = None
expression_error_place NeedsTooManyWords = None
expression_error_place VariableTooDeep = None
expression_error_place expression_error.Memory = None

-- the code of a compile error: K6, K7, K9, G3, G4 or memory
abbrev pub compile_error_code : CompileError → List ℕ
compile_error_code (InvalidExpression part place e) = codes "K6"
compile_error_code NotABool = codes "K7"
compile_error_code MessageNotAString = codes "K9"
compile_error_code TooManyNodes = code_error_code code_error.TooManyNodes
compile_error_code TooManyTextBytes = code_error_code code_error.TooManyTextBytes
compile_error_code compile_error.Memory = codes "memory"
