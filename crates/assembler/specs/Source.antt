-- Text as the source of code.
use Rattle.std.specs.Prelude.{◌≡◌, ℕ, suc, ◌+◌, ◌≤◌, pos, ◌-ℤ◌, List, [], ◌∷◌, ◌++◌, Option, Some}
use Rattle.insn_codec.specs.Statements.{IsStatement, statement_bytes}
use Rattle.insn_codec.specs.declared.statement.Statement.{Statement}
use Rattle.insn_codec.specs.Limits.{slot_limit}
use Rattle.assembler.specs.Jumps.{jump_by}
use Rattle.assembler.specs.Cutting.{lines_of}
use Rattle.assembler.specs.Items.{SourceItem, statement, label, jump, item_slots, slots_of}
use Rattle.assembler.specs.Reading.{ReadsLine, says}
use Rattle.assembler.specs.declared.lines.jump.Jump.{Jump}

-- each line is the line of the item at the same position
abbrev pub EachSays : List (List ℕ) → List SourceItem → Type 0
EachSays [] [] = Unit {0}
EachSays (line ∷ lines) (i ∷ is) = ReadsLine line (says i) × EachSays lines is
EachSays _ _ = ⊥

-- a line that defines the label follows these lines
abbrev pub NamedAfter : List SourceItem → List ℕ → List SourceItem → Type 0
NamedAfter items name before = (later : List SourceItem) × (items ≡ before ++ label name ∷ later)

-- the map has exactly the labels that lines define; each is defined by one line and
-- maps to the number of slots before it
pub record GivesSlots (labels : List ℕ → Option ℕ) (items : List SourceItem) : Type 0 where
  pub gives : (name : List ℕ) (before : List SourceItem) → NamedAfter items name before → labels name ≡ Some (slots_of before)
  pub once : (name : List ℕ) (before again : List SourceItem) → NamedAfter items name before → NamedAfter items name again → before ≡ again
  pub named : (name : List ℕ) (slot : ℕ) → labels name ≡ Some slot → (before : List SourceItem) × NamedAfter items name before

-- the bytes of a line that begins at this slot: those of its statement, none for a label, and for a jump to a label
-- those of the jump by the label's slot minus the slot after the jump
pub data StandsFor (labels : List ℕ → Option ℕ) (slot : ℕ) : SourceItem → List ℕ → Type 0 where
  stated : (x : Statement) → StandsFor labels slot (statement x) (statement_bytes x)
  named : (name : List ℕ) → StandsFor labels slot (label name) []
  jumped : (j : Jump) (name : List ℕ) (target : ℕ) → labels name ≡ Some target → IsStatement (jump_by j (pos target -ℤ pos (suc slot)))
      → StandsFor labels slot (jump j name) (statement_bytes (jump_by j (pos target -ℤ pos (suc slot))))

-- the bytes of the lines from this slot on, in order
pub data StandFor (labels : List ℕ → Option ℕ) : ℕ → List SourceItem → List ℕ → Type 0 where
  none : {slot : ℕ} → StandFor labels slot [] []
  line : {slot : ℕ} {i : SourceItem} {is : List SourceItem} {bytes more : List ℕ} → StandsFor labels slot i bytes
      → StandFor labels (slot + item_slots i) is more → StandFor labels slot (i ∷ is) (bytes ++ more)

-- Each line has an item. Some map gives each label, defined by exactly one line, the number of slots before that
-- line; and the bytes are those of the lines in order, at most 65,536 slots.
pub record Source (text bytes : List ℕ) : Type 0 where
  pub items : List SourceItem
  pub lines : EachSays (lines_of text) items
  pub labels : List ℕ → Option ℕ
  pub places : GivesSlots labels items
  pub room : slots_of items ≤ slot_limit
  pub code : StandFor labels 0 items bytes
