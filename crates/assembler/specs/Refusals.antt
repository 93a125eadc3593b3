-- Why a text is refused.
use Rattle.std.specs.Prelude.{◌≡◌, ℕ, suc, pos, ◌-ℤ◌, FitsSigned, List, [], ◌∷◌, ◌++◌, Ok, Err, length}
use Rattle.std.specs.Int.{w16}
use Rattle.assembler.specs.FirstPass.{Scans}
use Rattle.assembler.specs.Items.{SourceItem, jump, slots_of}
use Rattle.assembler.specs.Source.{NamedAfter}
use Rattle.assembler.specs.declared.asm_error.AsmError.{AsmError, TheVariants.UnknownLabel, TheVariants.JumpTooFar}
use Rattle.assembler.specs.declared.lines.jump.Jump.{Jump, TheVariants.Near, TheVariants.Long, TheVariants.CallLocal, TheVariants.Branch}

-- no line defines the label
abbrev pub IsUnnamed : List SourceItem → List ℕ → Type 0
IsUnnamed items name = (before : List SourceItem) → NamedAfter items name before → ⊥

-- the jump's offset has 16 bits
abbrev pub IsShort : Jump → Type 0
IsShort Near = Unit {0}
IsShort Long = ⊥
IsShort CallLocal = ⊥
IsShort (Branch comparison width dst operand) = Unit {0}

-- a line defines the label, and the offset to it from the slot after the jump, which follows
-- these lines, is not a signed 16-bit number
pub record IsTooFar (items before : List SourceItem) (j : Jump) (name : List ℕ) : Type 0 where
  pub short : IsShort j
  pub front : List SourceItem
  pub named : NamedAfter items name front
  pub outside : FitsSigned w16 (pos (slots_of front) -ℤ pos (suc (slots_of before))) → ⊥

-- why the line after these is refused: its jump's label is not defined by any line, or too far away
pub data IsJumpRefused (items before : List SourceItem) : SourceItem → AsmError → Type 0 where
  unnamed : {j : Jump} {name : List ℕ} → IsUnnamed items name
      → IsJumpRefused items before (jump j name) (UnknownLabel (suc (length before)))
  too_far : {j : Jump} {name : List ℕ} → IsTooFar items before j name
      → IsJumpRefused items before (jump j name) (JumpTooFar (suc (length before)))

-- no line is refused for its jump
abbrev pub NoneRefused : List SourceItem → List SourceItem → Type 0
NoneRefused items before = (front : List SourceItem) (i : SourceItem) (rest : List SourceItem) (e : AsmError) → before ≡ front ++ i ∷ rest
    → IsJumpRefused items front i e → ⊥

-- the first line that is refused for its jump
pub record FirstRefused (items : List SourceItem) (error : AsmError) : Type 0 where
  pub before : List SourceItem
  pub here : SourceItem
  pub later : List SourceItem
  pub stands : items ≡ before ++ here ∷ later
  pub refused : IsJumpRefused items before here error
  pub first : NoneRefused items before

-- the first pass refuses a line; or it refuses none, and this is the first line
-- whose label is undefined or too far away
pub data IsSourceRefused (lines : List (List ℕ)) : AsmError → Type 0 where
  by_first_pass : {error : AsmError} → Scans [] lines (Err error) → IsSourceRefused lines error
  by_label : {error : AsmError} (items : List SourceItem) → Scans [] lines (Ok items) → FirstRefused items error
      → IsSourceRefused lines error
