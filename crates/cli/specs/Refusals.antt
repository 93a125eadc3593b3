-- The refusals of the programs: their exit status, and their line on standard error.
use Rattle.std.specs.Prelude.{ℕ, List, [], ◌∷◌, ◌++◌, codes, decimal}
use Rattle.assembler.specs.declared.asm_error.AsmError.{AsmError, TheVariants.UnknownLine, TheVariants.NumberOutOfRange}
use Rattle.assembler.specs.declared.asm_error.AsmError.TheVariants.{UnknownLabel, DuplicateLabel, JumpTooFar, TooManySlots}
use Rattle.assembler.specs.declared.asm_error.AsmError.TheVariants as asm_error
use Rattle.cel_macros.specs.declared.macro_error.MacroError.TheVariants.{WrongArgumentCount, InvalidIterationName, HasWithoutSelection}
use Rattle.cel_macros.specs.declared.macro_error.MacroError.TheVariants as macro_error
use Rattle.cel_tokens.specs.declared.read_error.ReadError.TheVariants.{UnknownCharacter, InvalidTextLiteral, IntOutOfRange}
use Rattle.cel_tokens.specs.declared.read_error.ReadError.TheVariants.{UnexpectedToken, TooManyOpen, TextTooLong}
use Rattle.cel_tokens.specs.declared.read_error.ReadError.TheVariants as read_error
use Rattle.cel_types.specs.declared.type_error.TypeError.TheVariants.{UnknownIdentifier, NoMatchingOverload, MisusedVariables}
use Rattle.streams.specs.declared.session_error.SessionError.{SessionError, TheVariants.ReadFailed, TheVariants.WriteFailed}
use Rattle.streams.specs.declared.session_error.SessionError.TheVariants as session_error
use Rattle.policy_glue.specs.CompileErrors.{kind_text}
use Rattle.policy_glue.specs.declared.compile_error.CompileError.{CompileError, TheVariants.InvalidExpression, TheVariants.NotABool}
use Rattle.policy_glue.specs.declared.compile_error.CompileError.TheVariants.{MessageNotAString, TooManyNodes, TooManyTextBytes}
use Rattle.policy_glue.specs.declared.compile_error.CompileError.TheVariants as compile_error
use Rattle.policy_glue.specs.declared.expression_error.ExpressionError.{ExpressionError, TheVariants.Unexpanded, TheVariants.Untyped}
use Rattle.policy_glue.specs.declared.expression_error.ExpressionError.TheVariants.{NeedsTooManyWords, VariableTooDeep}
use Rattle.policy_glue.specs.declared.expression_error.ExpressionError.TheVariants as expression
use Rattle.policy_glue.specs.ErrorCodes.{policy_error_code}
use Rattle.loader.specs.ErrorCodes.{load_error_code}
use Rattle.loader.specs.declared.load_error.LoadError.{LoadError}
use Rattle.loader.specs.declared.load_error.LoadError.TheVariants as load_error
use Rattle.admission.specs.ErrorCodes.{run_error_code}
use Rattle.host.specs.declared.file_error.FileError.{FileError, TheVariants.Failed}
use Rattle.host.specs.declared.file_error.FileError.TheVariants as file_error
use Rattle.host.specs.declared.order_error.OrderError.{OrderError, TheVariants.InvalidArguments}
use Rattle.host.specs.declared.order_error.OrderError.TheVariants as order_error
use Rattle.admission.specs.declared.run_error.RunError.{RunError, TheVariants.PolicyRefused, TheVariants.OutOfSteps, TheVariants.OverLimit, TheVariants.OutOfReads}
use Rattle.admission.specs.declared.policy_refusal.PolicyRefusal.{PolicyRefusal, TheVariants.Unread, TheVariants.Uncompiled}
use Rattle.admission.specs.declared.policy_refusal.PolicyRefusal.TheVariants as policy_refusal
use Rattle.admission.specs.declared.run_error.RunError.TheVariants as run_error
use Rattle.cli.specs.declared.refusal.Refusal.{Refusal}
use Rattle.cli.specs.declared.refusal.Refusal.TheVariants.{Words, Image, File, Text, Program, Policy, Run, Input, Output, Memory}

-- the refusal if no order was read
abbrev pub order_refusal : OrderError → Refusal
order_refusal InvalidArguments = Words
order_refusal order_error.Memory = Memory

-- the refusal if a file was not read or written
abbrev pub file_refusal : FileError → Refusal
file_refusal Failed = File
file_refusal file_error.Memory = Memory

-- the refusal if a session broke off
abbrev pub session_refusal : SessionError → Refusal
session_refusal ReadFailed = Input
session_refusal WriteFailed = Output
session_refusal session_error.Memory = Memory

-- the refusal if a file holds no image
abbrev pub load_refusal : LoadError → Refusal
load_refusal load_error.Memory = Memory
load_refusal e = Image e

-- the refusal if a text gives no image
abbrev pub program_refusal : AsmError → Refusal
program_refusal asm_error.Memory = Memory
program_refusal e = Program e

-- the refusal if a policy gives no image
abbrev pub policy_refusal_of : PolicyRefusal → Refusal
policy_refusal_of policy_refusal.Memory = Memory
policy_refusal_of e = Policy e

-- the refusal if a review has no response
abbrev pub run_refusal : RunError → Refusal
run_refusal run_error.Memory = Memory
run_refusal e = Run e

-- why a text does not assemble, and its line, counted from 1
abbrev pub program_text : AsmError → List ℕ
program_text (UnknownLine n) = codes "A1 line " ++ decimal n
program_text (NumberOutOfRange n) = codes "A2 line " ++ decimal n
program_text (UnknownLabel n) = codes "A3 line " ++ decimal n
program_text (DuplicateLabel n) = codes "A4 line " ++ decimal n
program_text (JumpTooFar n) = codes "A5 line " ++ decimal n
program_text (TooManySlots n) = codes "A6 line " ++ decimal n
program_text asm_error.Memory = codes "memory"

-- why an expression is refused: its text, with the byte, counted from 0; its macros; its types; its stack words; its depth
abbrev pub cause_text : ExpressionError → List ℕ
cause_text (expression.Unread (UnknownCharacter place)) = codes "P1 at " ++ decimal place
cause_text (expression.Unread (InvalidTextLiteral place)) = codes "P2 at " ++ decimal place
cause_text (expression.Unread (IntOutOfRange place)) = codes "P3 at " ++ decimal place
cause_text (expression.Unread (UnexpectedToken place)) = codes "P4 at " ++ decimal place
cause_text (expression.Unread (TooManyOpen place)) = codes "P5 at " ++ decimal place
cause_text (expression.Unread (TextTooLong place)) = codes "P6 at " ++ decimal place
cause_text (expression.Unread read_error.Memory) = codes "memory"
cause_text (Unexpanded WrongArgumentCount) = codes "M1"
cause_text (Unexpanded InvalidIterationName) = codes "M2"
cause_text (Unexpanded HasWithoutSelection) = codes "M3"
cause_text (Unexpanded macro_error.Memory) = codes "memory"
cause_text (Untyped UnknownIdentifier) = codes "Y1"
cause_text (Untyped NoMatchingOverload) = codes "Y2"
cause_text (Untyped MisusedVariables) = codes "Y3"
cause_text NeedsTooManyWords = codes "G1"
cause_text VariableTooDeep = codes "G2"
cause_text expression.Memory = codes "memory"

-- why a policy has no image: for an expression the kind of its part, the part's place, counted from 0, and the cause
abbrev pub uncompiled_text : CompileError → List ℕ
uncompiled_text (InvalidExpression part place e) =
    codes "K6 " ++ (kind_text part ++ (codes " " ++ (decimal place ++ (codes " " ++ cause_text e))))
uncompiled_text NotABool = codes "K7"
uncompiled_text MessageNotAString = codes "K9"
uncompiled_text TooManyNodes = codes "G3"
uncompiled_text TooManyTextBytes = codes "G4"
uncompiled_text compile_error.Memory = codes "memory"

-- why a document gives no image
abbrev pub policy_text : PolicyRefusal → List ℕ
policy_text (Unread e) = policy_error_code e
policy_text (Uncompiled e) = uncompiled_text e
policy_text policy_refusal.Memory = codes "memory"

-- the code of a run error, and for a refused policy the policy's refusal
abbrev pub run_text : RunError → List ℕ
run_text (PolicyRefused e) = run_error_code (PolicyRefused e) ++ (codes " " ++ policy_text e)
run_text e = run_error_code e

-- the text of a refusal
abbrev pub refusal_text : Refusal → List ℕ
refusal_text Words = codes "U1"
refusal_text (Image e) = load_error_code e
refusal_text File = codes "file"
refusal_text Text = codes "text"
refusal_text (Program e) = program_text e
refusal_text (Policy e) = policy_text e
refusal_text (Run e) = run_text e
refusal_text Input = codes "S1"
refusal_text Output = codes "S2"
refusal_text Memory = codes "memory"

-- the line of a refusal on standard error
abbrev pub refusal_line : Refusal → List ℕ
refusal_line r = codes "celbpf: " ++ (refusal_text r ++ 10 ∷ [])

-- the capacity that is enough for each such line
abbrev pub longest_line : ℕ
longest_line = 80

-- 2 if the words are refused, 4 if the run of a review gave no verdict, 3 for every other reason: input, files and memory
abbrev pub refusal_status : Refusal → ℕ
refusal_status Words = 2
refusal_status (Run OutOfSteps) = 4
refusal_status (Run OverLimit) = 4
refusal_status (Run OutOfReads) = 4
refusal_status _ = 3
