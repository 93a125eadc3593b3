-- Items: the meaning of source lines.
use Rattle.std.specs.Prelude.{ℕ, ◌+◌, ◌^◌, ◌<◌, Bool, ◌&&◌, ◌||◌, IsTrue, List, [], ◌∷◌, ◌++◌, codes, nat_eq, nat_le}
use Rattle.std.specs.List.{list_all}
use Rattle.insn_codec.specs.Lines.{line_with}
use Rattle.insn_codec.specs.Statements.{IsStatement, statement_slots, statement_text}
use Rattle.insn_codec.specs.declared.insn.Insn.TheVariants.{LoadWide}
use Rattle.insn_codec.specs.declared.statement.Statement.{Statement, TheVariants.Insn, TheVariants.Slot}
use Rattle.assembler.specs.Jumps.{JumpInRange, jump_mnemonic, jump_operands}
use Rattle.assembler.specs.declared.lines.jump.Jump.{Jump}
use Rattle.assembler.specs.declared.lines.line.Line.{Line}
use Rattle.assembler.specs.declared.lines.line.Line.TheVariants as line

-- the item of a line: a statement, a label for the next slot, or a jump to a label
pub data SourceItem : Type 0 where
  statement : Statement → SourceItem
  label : List ℕ → SourceItem
  jump : Jump → List ℕ → SourceItem

-- the item of a line of the code
abbrev pub item_of : Line → SourceItem
item_of (line.Statement x) = statement x
item_of (line.Label name) = label name.now
item_of (line.Jump j name) = jump j name.now

-- the line of an item
abbrev pub item_text : SourceItem → List ℕ
item_text (statement x) = statement_text x
item_text (label name) = name ++ codes ":"
item_text (jump j name) = line_with (jump_mnemonic j) (jump_operands j name)

-- whether the byte is a letter or an underscore
abbrev pub begins_name : ℕ → Bool
begins_name b = (nat_le 97 b && nat_le b 122) || ((nat_le 65 b && nat_le b 90) || nat_eq b 95)

-- whether the byte is a letter, an underscore or a digit
abbrev pub goes_on_name : ℕ → Bool
goes_on_name b = begins_name b || (nat_le 48 b && nat_le b 57)

-- an identifier: a letter or an underscore, followed by letters, underscores and digits
abbrev pub IsLabel : List ℕ → Type 0
IsLabel [] = ⊥
IsLabel (b ∷ bs) = IsTrue (begins_name b) × IsTrue (list_all goes_on_name bs)

-- the 64-bit words of a statement fit sixteen hex digits
abbrev pub HasDigits : Statement → Type 0
HasDigits (Insn (LoadWide dst value)) = value < 2 ^ 64
HasDigits (Insn _) = Unit {0}
HasDigits (Slot word) = word < 2 ^ 64

-- the item has a line: names are identifiers, and 64-bit words fit their digits; immediates and offsets are unbounded
abbrev pub HasLine : SourceItem → Type 0
HasLine (statement x) = HasDigits x
HasLine (label name) = IsLabel name
HasLine (jump j name) = IsLabel name

-- the immediate and the offset of the item are in their ranges
abbrev pub InRange : SourceItem → Type 0
InRange (statement x) = IsStatement x
InRange (label name) = Unit {0}
InRange (jump j name) = JumpInRange j

-- the number of slots of an item
abbrev pub item_slots : SourceItem → ℕ
item_slots (statement x) = statement_slots x
item_slots (label name) = 0
item_slots (jump j name) = 1

-- the number of slots of all items
abbrev pub slots_of : List SourceItem → ℕ
slots_of [] = 0
slots_of (i ∷ is) = item_slots i + slots_of is
