-- The way from code to its listing and back.
use Rattle.std.specs.Prelude.{ℕ, ◌<◌, List, Result, Ok, All, String, string_bytes, Vec}
use Rattle.std.specs.Global.{Global}
use Rattle.assembler.specs.Answers.{AssembleReturns, IsAssemblyResult}
use Rattle.assembler.specs.declared.asm_error.AsmError.{AsmError}
use Rattle.disassembler.specs.Answers.{GivesListing}

-- if `listing` returns this text for the code, then `assemble` returns the code for the text, unless an allocation
-- fails
abbrev pub ListingAssemblesToCode : Type 0
ListingAssemblesToCode =
    (code : List ℕ) (text : String Global) (r : Result (Vec ℕ Global) AsmError) → All (λ b. b < 256) code
    → GivesListing code (Ok text) → AssembleReturns (string_bytes text) r → IsAssemblyResult (Ok code) r
