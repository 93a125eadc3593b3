-- The laws of assembling.
use Rattle.std.specs.Prelude.{◌≡◌, ◌↔◌, ℕ, ◌/◌, ◌%◌, ◌<◌, ◌≤◌, List, Result, Ok, Err, All, length}
use Rattle.insn_codec.specs.Statements.{Listing}
use Rattle.insn_codec.specs.Limits.{slot_limit}
use Rattle.assembler.specs.Assembles.{Assembles}
use Rattle.assembler.specs.Cutting.{lines_of}
use Rattle.assembler.specs.Refusals.{IsSourceRefused}
use Rattle.assembler.specs.Source.{Source}
use Rattle.assembler.specs.declared.asm_error.AsmError.{AsmError}

-- a text is the source of exactly the code that assembling it returns
abbrev pub SourceIsAssembled : Type 0
SourceIsAssembled = (text bytes : List ℕ) → (Source text bytes ↔ Assembles (lines_of text) (Ok bytes))

-- the outcome of assembling is unique
abbrev pub OneAnswer : Type 0
OneAnswer = (lines : List (List ℕ)) (r s : Result (List ℕ) AsmError) → Assembles lines r → Assembles lines s → r ≡ s

-- the listing of code with at most 65,536 whole slots is its source
abbrev pub ListingIsSource : Type 0
ListingIsSource = (code text : List ℕ) → All (λ b. b < 256) code → length code % 8 ≡ 0 → length code / 8 ≤ slot_limit → Listing code text
    → Source text code

-- a text is refused with an error exactly if the error's cause holds
abbrev pub RefusedByCause : Type 0
RefusedByCause = (lines : List (List ℕ)) (error : AsmError) → (Assembles lines (Err error) ↔ IsSourceRefused lines error)
