-- The text of a refusal has the codes of its causes.
use Rattle.cli.proofs.Prelude.{◌≡◌, ℕ, List, ap, refl}
use Rattle.std.proofs.Common.{◌++◌, codes, decimal}
use Rattle.assembler.specs.ErrorCodes.{asm_error_code, asm_error_line}
use Rattle.assembler.specs.declared.asm_error.AsmError.{AsmError, TheVariants.UnknownLine, TheVariants.NumberOutOfRange, TheVariants.UnknownLabel}
use Rattle.assembler.specs.declared.asm_error.AsmError.TheVariants.{DuplicateLabel, JumpTooFar, TooManySlots}
use Rattle.assembler.specs.declared.asm_error.AsmError.TheVariants as asm_error
use Rattle.cel_macros.specs.declared.macro_error.MacroError.TheVariants.{WrongArgumentCount, InvalidIterationName, HasWithoutSelection}
use Rattle.cel_macros.specs.declared.macro_error.MacroError.TheVariants as macro_error
use Rattle.cel_tokens.specs.declared.read_error.ReadError.TheVariants.{UnknownCharacter, InvalidTextLiteral, IntOutOfRange}
use Rattle.cel_tokens.specs.declared.read_error.ReadError.TheVariants.{UnexpectedToken, TooManyOpen, TextTooLong}
use Rattle.cel_tokens.specs.declared.read_error.ReadError.TheVariants as read_error
use Rattle.cel_types.specs.declared.type_error.TypeError.TheVariants.{UnknownIdentifier, NoMatchingOverload, MisusedVariables}
use Rattle.policy_glue.specs.CompileErrors.{compile_text, expression_text, kind_text, with_number}
use Rattle.policy_glue.specs.declared.compile_error.CompileError.{CompileError, TheVariants.InvalidExpression, TheVariants.NotABool}
use Rattle.policy_glue.specs.declared.compile_error.CompileError.TheVariants.{MessageNotAString, TooManyNodes, TooManyTextBytes}
use Rattle.policy_glue.specs.declared.compile_error.CompileError.TheVariants as compile_error
use Rattle.policy_glue.specs.declared.expression_error.ExpressionError.{ExpressionError, TheVariants.Unexpanded, TheVariants.Untyped}
use Rattle.policy_glue.specs.declared.expression_error.ExpressionError.TheVariants.{NeedsTooManyWords, VariableTooDeep}
use Rattle.policy_glue.specs.declared.expression_error.ExpressionError.TheVariants as expression
use Rattle.cli.specs.Refusals.{cause_text, program_text, uncompiled_text}

-- a code with the number of the line
pub program_said : (e : AsmError) → with_number (asm_error_code e) (codes " line ") (asm_error_line e) ≡ program_text e
program_said (UnknownLine n) = refl
program_said (NumberOutOfRange n) = refl
program_said (UnknownLabel n) = refl
program_said (DuplicateLabel n) = refl
program_said (JumpTooFar n) = refl
program_said (TooManySlots n) = refl
program_said asm_error.Memory = refl

-- the cause of an expression's refusal
cause_said : (e : ExpressionError) → expression_text e ≡ cause_text e
cause_said (expression.Unread (UnknownCharacter place)) = refl
cause_said (expression.Unread (InvalidTextLiteral place)) = refl
cause_said (expression.Unread (IntOutOfRange place)) = refl
cause_said (expression.Unread (UnexpectedToken place)) = refl
cause_said (expression.Unread (TooManyOpen place)) = refl
cause_said (expression.Unread (TextTooLong place)) = refl
cause_said (expression.Unread read_error.Memory) = refl
cause_said (Unexpanded WrongArgumentCount) = refl
cause_said (Unexpanded InvalidIterationName) = refl
cause_said (Unexpanded HasWithoutSelection) = refl
cause_said (Unexpanded macro_error.Memory) = refl
cause_said (Untyped UnknownIdentifier) = refl
cause_said (Untyped NoMatchingOverload) = refl
cause_said (Untyped MisusedVariables) = refl
cause_said NeedsTooManyWords = refl
cause_said VariableTooDeep = refl
cause_said expression.Memory = refl

-- a compile error
pub compile_said : (e : CompileError) → compile_text e ≡ uncompiled_text e
compile_said (InvalidExpression part place e) =
    ap (λ (cause : List ℕ). codes "K6 " ++ (kind_text part ++ (codes " " ++ (decimal place ++ (codes " " ++ cause))))) (cause_said e)
compile_said NotABool = refl
compile_said MessageNotAString = refl
compile_said TooManyNodes = refl
compile_said TooManyTextBytes = refl
compile_said compile_error.Memory = refl
