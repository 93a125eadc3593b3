-- Codes and lines of the errors.
use Rattle.std.specs.Prelude.{ℕ, List, Option, None, Some, codes}
use Rattle.assembler.specs.declared.asm_error.AsmError.{AsmError}
use Rattle.assembler.specs.declared.asm_error.AsmError.TheVariants.{UnknownLine, NumberOutOfRange, UnknownLabel, DuplicateLabel, JumpTooFar, TooManySlots, Memory}

-- the code of a text that cannot be assembled: A1 to A6, or memory
abbrev pub asm_error_code : AsmError → List ℕ
asm_error_code (UnknownLine line) = codes "A1"
asm_error_code (NumberOutOfRange line) = codes "A2"
asm_error_code (UnknownLabel line) = codes "A3"
asm_error_code (DuplicateLabel line) = codes "A4"
asm_error_code (JumpTooFar line) = codes "A5"
asm_error_code (TooManySlots line) = codes "A6"
asm_error_code Memory = codes "memory"

-- the line at which the text is refused, counted from 1
abbrev pub asm_error_line : AsmError → Option ℕ
asm_error_line (UnknownLine line) = Some line
asm_error_line (NumberOutOfRange line) = Some line
asm_error_line (UnknownLabel line) = Some line
asm_error_line (DuplicateLabel line) = Some line
asm_error_line (JumpTooFar line) = Some line
asm_error_line (TooManySlots line) = Some line
asm_error_line Memory = None
