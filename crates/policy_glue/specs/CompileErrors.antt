-- How compile errors are printed.
use Rattle.std.specs.Prelude.{ℕ, List, ◌++◌, Option, None, Some, codes, decimal}
use Rattle.cel_tokens.specs.declared.read_error.ReadError.{ReadError}
use Rattle.cel_tokens.specs.declared.read_error.ReadError.TheVariants as read_error
use Rattle.cel_macros.specs.declared.macro_error.MacroError.{MacroError}
use Rattle.cel_macros.specs.declared.macro_error.MacroError.TheVariants as macro_error
use Rattle.policy_code.specs.declared.program_error.ProgramError.{ProgramError}
use Rattle.policy_code.specs.declared.program_error.ProgramError.TheVariants as program_error
use Rattle.policy_glue.specs.ErrorCodes.{compile_error_code, expression_error_code, expression_error_place}
use Rattle.policy_glue.specs.declared.part_kind.PartKind.{PartKind, TheVariants.Variable, TheVariants.Condition, TheVariants.Validation, TheVariants.Message}
use Rattle.policy_glue.specs.declared.expression_error.ExpressionError.{ExpressionError, TheVariants.Unread, TheVariants.Unexpanded}
use Rattle.policy_glue.specs.declared.expression_error.ExpressionError.TheVariants as expression_error
use Rattle.policy_glue.specs.declared.compile_error.CompileError.{CompileError, TheVariants.InvalidExpression}
use Rattle.policy_glue.specs.declared.compile_error.CompileError.TheVariants as compile_error

-- the word for this kind of part
abbrev pub kind_text : PartKind → List ℕ
kind_text Variable = codes "variable"
kind_text Condition = codes "condition"
kind_text Validation = codes "validation"
kind_text Message = codes "message"

-- the code, then these words and the number if there is a number
abbrev pub with_number : List ℕ → List ℕ → Option ℕ → List ℕ
with_number code words None = code
with_number code words (Some n) = code ++ (words ++ decimal n)

-- an expression's error: its code, and the byte at which its text is refused
abbrev pub expression_text : ExpressionError → List ℕ
expression_text e = with_number (expression_error_code e) (codes " at ") (expression_error_place e)

-- the part whose expression is refused: its kind, its place counted from 0, and the expression's error
abbrev pub part_text : PartKind → ℕ → ExpressionError → List ℕ
part_text part place e = kind_text part ++ (codes " " ++ (decimal place ++ (codes " " ++ expression_text e)))

-- a compile error: its code, and the part if an expression is refused
abbrev pub compile_text : CompileError → List ℕ
compile_text (InvalidExpression part place e) = compile_error_code (InvalidExpression part place e) ++ (codes " " ++ part_text part place e)
compile_text e = compile_error_code e

-- a read error as an expression's error; out of memory stays `Memory`
abbrev pub from_reader : ReadError → ExpressionError
from_reader read_error.Memory = expression_error.Memory
from_reader e = Unread e

-- a macro error as an expression's error; out of memory stays `Memory`
abbrev pub from_macros : MacroError → ExpressionError
from_macros macro_error.Memory = expression_error.Memory
from_macros e = Unexpanded e

-- an expression's error as the error of the part at this place
abbrev pub in_part : PartKind → ℕ → ExpressionError → CompileError
in_part part place expression_error.Memory = compile_error.Memory
in_part part place e = InvalidExpression part place e

-- the error of a program as the policy's error
abbrev pub from_program : ProgramError → CompileError
from_program program_error.TooManyNodes = compile_error.TooManyNodes
from_program program_error.TooManyTextBytes = compile_error.TooManyTextBytes
from_program program_error.Memory = compile_error.Memory
