-- Laws of instructions and statements.
use Rattle.std.specs.Prelude.{◌≡◌, ◌≢◌, ℕ, ◌*◌, ◌%◌, ◌<◌, ◌≤◌, List, [], ◌++◌, length, All}
use Rattle.insn_codec.specs.Spelling.{BeginsWith, IsInsn, slot_count, spelling}
use Rattle.insn_codec.specs.Statements.{IsStatement, after_statement, statement_bytes, statement_of, statement_slots, statement_text}
use Rattle.insn_codec.specs.declared.insn.Insn.{Insn as Instruction}
use Rattle.insn_codec.specs.declared.statement.Statement.{Statement, TheVariants.Insn}

-- no bytes begin with the encodings of two instructions
abbrev pub OneSpelling : Type 0
OneSpelling = (i j : Instruction) (text : List ℕ) → IsInsn i → IsInsn j → BeginsWith (spelling i) text → BeginsWith (spelling j) text
    → i ≡ j

-- the bytes fill this number of slots of eight bytes, at least one
pub record FillsSlots (bytes : List ℕ) (slots : ℕ) : Type 0 where
  pub length_is : length bytes ≡ 8 * slots
  pub some : 1 ≤ slots

-- the bytes of an instruction, and of a statement, fill its slots
pub record SlotsAreFilled : Type 0 where
  pub by_insn : (i : Instruction) → FillsSlots (spelling i) (slot_count i)
  pub by_statement : (x : Statement) → FillsSlots (statement_bytes x) (statement_slots x)

-- code begins with the bytes of its first statement, and if it begins with the encoding of an
-- instruction, the statement is that instruction
pub record StandsFirst (code : List ℕ) : Type 0 where
  pub in_range : IsStatement (statement_of code)
  pub bytes : code ≡ statement_bytes (statement_of code) ++ after_statement code
  pub chosen : (i : Instruction) → IsInsn i → BeginsWith (spelling i) code → statement_of code ≡ Insn i

-- `StandsFirst` holds of all non-empty code of whole slots
abbrev pub StatementIsSpelled : Type 0
StatementIsSpelled = (code : List ℕ) → All (λ b. b < 256) code → length code % 8 ≡ 0 → code ≢ [] → StandsFirst code

-- a statement's text is one line: none of its bytes is a line feed
abbrev pub NoLineFeed : Type 0
NoLineFeed = (x : Statement) → IsStatement x → All (λ b. b ≢ 10) (statement_text x)
