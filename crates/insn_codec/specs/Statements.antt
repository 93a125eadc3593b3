-- Statements of a listing, and the listing of code.
use Rattle.std.specs.Prelude.{◌≡◌, ℕ, ◌*◌, ◌^◌, ◌<◌, List, [], ◌∷◌, ◌++◌, take, drop}
use Rattle.std.specs.Option.{option_map_or}
use Rattle.std.specs.Int.{w64, to_be_bytes, from_be_bytes}
use Rattle.insn_codec.specs.Lines.{line_with, mnemonic_of, operands_of, wide_text}
use Rattle.insn_codec.specs.Spelled.{spelled}
use Rattle.insn_codec.specs.Spelling.{IsInsn, slot_count, spelling}
use Rattle.insn_codec.specs.declared.mnemonic.Mnemonic.TheVariants as mnemonic
use Rattle.insn_codec.specs.declared.statement.Statement.{Statement, TheVariants.Insn, TheVariants.Slot}

-- the line of a statement, without its line feed: that of its instruction, or `.slot` with the slot's eight bytes as 16 hex
-- digits, the first byte first
abbrev pub statement_text : Statement → List ℕ
statement_text (Insn i) = line_with (mnemonic_of i) (operands_of i)
statement_text (Slot word) = line_with mnemonic.Slot (wide_text word ∷ [])

-- the bytes of a statement
abbrev pub statement_bytes : Statement → List ℕ
statement_bytes (Insn i) = spelling i
statement_bytes (Slot word) = to_be_bytes w64 word

-- the number of slots of a statement
abbrev pub statement_slots : Statement → ℕ
statement_slots (Insn i) = slot_count i
statement_slots (Slot word) = 1

-- the numbers of a statement fit their types
abbrev pub IsStatement : Statement → Type 0
IsStatement (Insn i) = IsInsn i
IsStatement (Slot word) = word < 2 ^ 64

-- the statement at the front of code: the instruction that its slots encode, else its first eight bytes as a slot
unfoldable pub statement_of : List ℕ → Statement
statement_of code = option_map_or Insn (spelled (take 16 code)) (Slot (from_be_bytes w64 (take 8 code)))

-- the code after the statement at its front
abbrev pub after_statement : List ℕ → List ℕ
after_statement code = drop (8 * statement_slots (statement_of code)) code

-- the statements of code in order
pub data Lists : List ℕ → List Statement → Type 0 where
  ended : Lists [] []
  place : {byte : ℕ} {bytes : List ℕ} {later : List Statement} → Lists (after_statement (byte ∷ bytes)) later
      → Lists (byte ∷ bytes) (statement_of (byte ∷ bytes) ∷ later)

-- the lines of statements, each ended by a line feed
abbrev pub lines_text : List Statement → List ℕ
lines_text [] = []
lines_text (x ∷ xs) = statement_text x ++ 10 ∷ lines_text xs

-- the text is the listing of the code
pub record Listing (code text : List ℕ) : Type 0 where
  pub statements : List Statement
  pub lists : Lists code statements
  pub text_is : text ≡ lines_text statements
