-- The outcome of assembling lines.
use Rattle.std.specs.Prelude.{◌≡◌, ℕ, List, [], Result, Ok, Err}
use Rattle.assembler.specs.FirstPass.{Scans}
use Rattle.assembler.specs.Items.{SourceItem}
use Rattle.assembler.specs.Labels.{label_slot}
use Rattle.assembler.specs.SecondPass.{code_bytes}
use Rattle.assembler.specs.declared.asm_error.AsmError.{AsmError}

-- the first pass refuses a line; or it refuses none, and the outcome is that of the second pass
pub data Assembles : List (List ℕ) → Result (List ℕ) AsmError → Type 0 where
  refused : {lines : List (List ℕ)} {error : AsmError} → Scans [] lines (Err error) → Assembles lines (Err error)
  resolved : {lines : List (List ℕ)} {r : Result (List ℕ) AsmError} (items : List SourceItem) → Scans [] lines (Ok items)
      → code_bytes (label_slot items) 1 0 items ≡ r → Assembles lines r
