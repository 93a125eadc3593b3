-- The way from code to its listing and back.
use Rattle.std.proofs.Common.{◌≡◌, ◌≤◌, ℕ, ◌/◌, ◌%◌, List, length, Result, Ok, Err, None, string_bytes, Vec, arith}
use Rattle.std.specs.Global.{Global}
use Rattle.insn_codec.specs.Limits.{slot_limit}
use Rattle.assembler.specs.Answers.{AssembleReturns, IsAssemblyResult}
use Rattle.assembler.specs.Assembles.{Assembles}
use Rattle.assembler.specs.Cutting.{lines_of}
use Rattle.assembler.specs.Laws.{ListingIsSource, OneAnswer, SourceIsAssembled}
use Rattle.assembler.specs.declared.asm_error.AsmError.{AsmError, TheVariants.UnknownLine, TheVariants.NumberOutOfRange, TheVariants.UnknownLabel, TheVariants.DuplicateLabel, TheVariants.JumpTooFar, TheVariants.TooManySlots, TheVariants.Memory}
use Rattle.disassembler.specs.Answers.{refusal_of}
use Rattle.machine_rows.specs.RoundTrip.{ListingAssemblesToCode}

-- code that is not refused has whole slots, and not too many
whole : (code : List ℕ) → refusal_of code ≡ None → length code % 8 ≡ 0
whole code e = grind arith

fits : (code : List ℕ) → refusal_of code ≡ None → length code / 8 ≤ slot_limit
fits code e = grind arith

-- the only result for lines that assemble to the code
only : OneAnswer → SourceIsAssembled → (code text : List ℕ) (r : Result (Vec ℕ Global) AsmError) → Assembles (lines_of text) (Ok code)
    → AssembleReturns text r → IsAssemblyResult (Ok code) r
only one source code text (Ok bytes) is given = one (lines_of text) (Ok code) (Ok bytes.items) is ((source text bytes.items).0 given)
only one source code text (Err (UnknownLine n)) is given = one (lines_of text) (Ok code) _ is given
only one source code text (Err (NumberOutOfRange n)) is given = one (lines_of text) (Ok code) _ is given
only one source code text (Err (UnknownLabel n)) is given = one (lines_of text) (Ok code) _ is given
only one source code text (Err (DuplicateLabel n)) is given = one (lines_of text) (Ok code) _ is given
only one source code text (Err (JumpTooFar n)) is given = one (lines_of text) (Ok code) _ is given
only one source code text (Err (TooManySlots n)) is given = one (lines_of text) (Ok code) _ is given
only one source code text (Err Memory) is given = tt

pub again : ListingIsSource → OneAnswer → SourceIsAssembled → ListingAssemblesToCode
again listed one source code text r small (none, listing) given =
    only one source code (string_bytes text) r ((source (string_bytes text) code).0 (listed code (string_bytes text) small (whole code none) (fits code none) listing)) given
