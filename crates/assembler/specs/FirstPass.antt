-- The first pass: the items of the lines, or the first line that is invalid.
use Rattle.std.specs.Prelude.{ℕ, suc, ◌+◌, ◌<◌, ◌≤◌, List, [], ◌∷◌, ◌++◌, Result, Ok, Err, length}
use Rattle.insn_codec.specs.Limits.{slot_limit}
use Rattle.assembler.specs.Items.{SourceItem, item_slots, slots_of}
use Rattle.assembler.specs.Labels.{IsFree}
use Rattle.assembler.specs.Reading.{ReadsLine, says, no_form, out_of_range}
use Rattle.assembler.specs.declared.asm_error.AsmError.{AsmError, TheVariants.UnknownLine, TheVariants.NumberOutOfRange, TheVariants.DuplicateLabel, TheVariants.TooManySlots}

-- Scans before lines r: after lines with the items `before`, the pass over these lines has the outcome r. A line is
-- checked for its form, its numbers, its label and the slots up to its end, in this order.
pub data Scans : List SourceItem → List (List ℕ) → Result (List SourceItem) AsmError → Type 0 where
  ended : {before : List SourceItem} → Scans before [] (Ok before)
  next : {before : List SourceItem} {line : List ℕ} {lines : List (List ℕ)} {r : Result (List SourceItem) AsmError} (i : SourceItem)
      → ReadsLine line (says i)
      → IsFree before i → slots_of before + item_slots i ≤ slot_limit → Scans (before ++ (i ∷ [])) lines r → Scans before (line ∷ lines) r
  formless : {before : List SourceItem} {line : List ℕ} {lines : List (List ℕ)} → ReadsLine line no_form
      → Scans before (line ∷ lines) (Err (UnknownLine (suc (length before))))
  wide : {before : List SourceItem} {line : List ℕ} {lines : List (List ℕ)} → ReadsLine line out_of_range
      → Scans before (line ∷ lines) (Err (NumberOutOfRange (suc (length before))))
  twice : {before : List SourceItem} {line : List ℕ} {lines : List (List ℕ)} (i : SourceItem) → ReadsLine line (says i)
      → (IsFree before i → ⊥)
      → Scans before (line ∷ lines) (Err (DuplicateLabel (suc (length before))))
  full : {before : List SourceItem} {line : List ℕ} {lines : List (List ℕ)} (i : SourceItem) → ReadsLine line (says i) → IsFree before i
      → slot_limit < slots_of before + item_slots i → Scans before (line ∷ lines) (Err (TooManySlots (suc (length before))))
