-- The two halves of a line with operands: its mnemonic, and the operands after the space.
use Rattle.std.specs.Prelude.{◌≡◌, ℕ, List, [], ◌∷◌, Option, Some, None, Result, Ok, Err}
use Rattle.insn_codec.specs.Lines.{mnemonic_of, operands_of, operands_text, wide_text}
use Rattle.insn_codec.specs.declared.mnemonic.Mnemonic.{Mnemonic}
use Rattle.insn_codec.specs.declared.mnemonic.Mnemonic.TheVariants as mnemonic
use Rattle.insn_codec.specs.declared.statement.Statement.{Statement, TheVariants.Insn, TheVariants.Slot}
use Rattle.assembler.specs.Items.{HasLine, InRange, SourceItem, item_of, statement, label, jump}
use Rattle.assembler.specs.Jumps.{jump_mnemonic, jump_operands}
use Rattle.assembler.specs.declared.lines.line.Line.{Line}
use Rattle.assembler.specs.declared.lines.line_error.LineError.{LineError, TheVariants.NoForm, TheVariants.OutOfRange}

-- the byte does not occur in the text
abbrev pub HasNoByte : ℕ → List ℕ → Type 0
HasNoByte c [] = Unit {0}
HasNoByte c (x ∷ xs) = (x ≡ c → ⊥) × HasNoByte c xs

-- two operands, separated by a comma and a space
abbrev pub operand_list : List ℕ → List ℕ → List ℕ
operand_list x y = operands_text (x ∷ y ∷ [])

-- the mnemonic of a statement's line
abbrev pub statement_mnemonic : Statement → Mnemonic
statement_mnemonic (Insn i) = mnemonic_of i
statement_mnemonic (Slot word) = mnemonic.Slot

-- the operands of a statement's line
abbrev pub statement_operands : Statement → List (List ℕ)
statement_operands (Insn i) = operands_of i
statement_operands (Slot word) = wide_text word ∷ []

-- the mnemonic, if there are operands
abbrev pub before_operands : List (List ℕ) → Mnemonic → Option Mnemonic
before_operands [] m = None
before_operands (x ∷ xs) m = Some m

-- the mnemonic of a line with operands
abbrev pub item_mnemonic : SourceItem → Option Mnemonic
item_mnemonic (statement x) = before_operands (statement_operands x) (statement_mnemonic x)
item_mnemonic (label name) = None
item_mnemonic (jump j name) = Some (jump_mnemonic j)

-- the operands of a line
abbrev pub item_operands : SourceItem → List ℕ
item_operands (statement x) = operands_text (statement_operands x)
item_operands (label name) = []
item_operands (jump j name) = operands_text (jump_operands j name)

-- the reading of the operands after a mnemonic
abbrev pub ReadsOperands : Mnemonic → List ℕ → Result Line LineError → Type 0
ReadsOperands m text (Ok l) =
    (item_mnemonic (item_of l) ≡ Some m) × (text ≡ item_operands (item_of l)) × HasLine (item_of l) × InRange (item_of l)
ReadsOperands m text (Err NoForm) = (i : SourceItem) → HasLine i → item_mnemonic i ≡ Some m → text ≡ item_operands i → ⊥
ReadsOperands m text (Err OutOfRange) = (i : SourceItem) × HasLine i × (item_mnemonic i ≡ Some m) × (text ≡ item_operands i)
    × (InRange i → ⊥)
