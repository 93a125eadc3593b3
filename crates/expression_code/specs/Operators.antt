-- What pieces compute from operands, and what operands and pieces give together.
-- The code is listed in `Code/Calls`; proofs in `proofs/Loaded` and `proofs/Operators`.
use Rattle.std.specs.Prelude.{◌≡◌, ℕ, ◌+◌, ◌<◌, ◌≤◌, ℤ, false, List, [], ◌∷◌, ◌++◌, Option, Some, None, nat_eq}
use Rattle.std.specs.Int.{w64, cast_unsigned}
use Rattle.helper_table.specs.Laws.{Names}
use Rattle.insn_codec.specs.Codes.{register_number}
use Rattle.insn_codec.specs.declared.insn.Insn.{Insn, TheVariants.Call}
use Rattle.insn_codec.specs.declared.register.Register.{Register, TheVariants.R0, TheVariants.R1, TheVariants.R2}
use Rattle.bpf_machine.specs.Operands.{is_frame_pointer}
use Rattle.value_store.specs.Value.{ValueOrError}
use Rattle.expression_code.specs.Limits.{frame_words, word_limit}
use Rattle.expression_code.specs.CpuState.{CpuState}
use Rattle.expression_code.specs.Code.Calls.{kept_size, operand_code, operands_code}
use Rattle.expression_code.specs.Contexts.{Context, IsWellFormedState, Evaluates, LeavesValue}
use Rattle.expression_code.specs.Engine.{RunContext, RunsTo}
use Rattle.expression_code.specs.Helpers.{BinaryHelper, UnaryHelper}
use Rattle.expression_code.specs.Pieces.{IsCodeAt, size}
use Rattle.expression_code.specs.Words.{word_at}
use Rattle.expression_code.specs.declared.simple_operand.SimpleOperand.{SimpleOperand, TheVariants.Reference, TheVariants.Word}

-- the simple operand holds the value or the error in this CPU state
abbrev pub IsLeafIn : SimpleOperand → ℕ → CpuState → ValueOrError → Type 0
IsLeafIn (Reference n) depth b x = Names b.values.values (cast_unsigned w64 n) x
IsLeafIn (Word k) depth b x = (k < frame_words) × Names b.values.values (word_at depth k b) x

-- a simple operand holds its value in each well-formed CPU state
abbrev pub IsLeafOf : Context → ℕ → ℕ → Option SimpleOperand → ValueOrError → Type 0
IsLeafOf c depth base (Some l) x = (b : CpuState) → IsWellFormedState c depth base b → IsLeafIn l depth b x
IsLeafOf c depth base None x = Unit {0}

-- two different registers, neither of which is the frame pointer
pub record AreApart (r q : Register) : Type 0 where
  pub first : is_frame_pointer r ≡ false
  pub second : is_frame_pointer q ≡ false
  pub apart : nat_eq (register_number r) (register_number q) ≡ false
  pub back : nat_eq (register_number q) (register_number r) ≡ false

-- the piece computes z from the value x in the register
pub record Converts (s : RunContext) (p : ℕ) (piece : List Insn) (r : Register) (c : Context)
    (depth base : ℕ) (x z : ValueOrError) (steps charge : ℕ) : Type 0 where
  pub runs : (b : CpuState) → IsCodeAt s.image.code p piece → IsWellFormedState c depth base b → Names b.values.values (b.registers r) x
      → RunsTo s steps charge p b (p + size piece) (LeavesValue c depth base z b)

-- the piece computes z from the values x and y in registers r and q
pub record Combines (s : RunContext) (p : ℕ) (piece : List Insn) (r q : Register) (c : Context)
    (depth k : ℕ) (x y z : ValueOrError) (steps charge : ℕ) : Type 0 where
  pub runs : (b : CpuState) → IsCodeAt s.image.code p piece → IsWellFormedState c depth k b → Names b.values.values (b.registers r) x
      → Names b.values.values (b.registers q) y → RunsTo s steps charge p b (p + size piece) (LeavesValue c depth k z b)

-- an operand followed by a piece, with 1 step to load the operand into the register
abbrev pub OneGives : Type 0
OneGives = (s : RunContext) (p : ℕ) (l : Option SimpleOperand) (operand piece : List Insn) (r : Register) (c : Context)
    (depth base : ℕ) (x z : ValueOrError) (n1 x1 n2 x2 : ℕ)
    → is_frame_pointer r ≡ false
    → IsLeafOf c depth base l x
    → Evaluates s p operand c depth base x n1 x1
    → Converts s (p + size (operand_code l operand r)) piece r c depth base x z n2 x2
    → Evaluates s p (operand_code l operand r ++ piece) c depth base z (n1 + (1 + n2)) (x1 + x2)

-- two operands followed by a piece, with 3 steps to keep the left one and to load both into their registers
abbrev pub TwoGives : Type 0
TwoGives = (s : RunContext) (p k : ℕ) (l : Option SimpleOperand) (left : List Insn) (m : Option SimpleOperand)
    (right piece : List Insn) (r q : Register) (c : Context) (depth : ℕ) (x y z : ValueOrError) (n1 x1 n2 x2 n3 x3 : ℕ)
    → k < word_limit
    → AreApart r q
    → IsLeafOf c depth k l x
    → Evaluates s p left c depth k x n1 x1
    → IsLeafOf c depth (k + 1) m y
    → Evaluates s (p + kept_size l left) right c depth (k + 1) y n2 x2
    → Combines s (p + size (operands_code l left m right k r q)) piece r q c depth k x y z n3 x3
    → Evaluates s p (operands_code l left m right k r q ++ piece) c depth k z (n1 + (1 + (n2 + (2 + n3)))) (x1 + (x2 + x3))

-- one piece after another
abbrev pub ConvertsThen : Type 0
ConvertsThen = (s : RunContext) (p : ℕ) (first second : List Insn) (r : Register) (c : Context)
    (depth base : ℕ) (x y z : ValueOrError) (n1 x1 n2 x2 : ℕ)
    → Converts s p first r c depth base x y n1 x1
    → Converts s (p + size first) second R0 c depth base y z n2 x2
    → Converts s p (first ++ second) r c depth base x z (n1 + n2) (x1 + x2)

-- a piece of one operand after a piece of two
abbrev pub CombinesThen : Type 0
CombinesThen = (s : RunContext) (p k : ℕ) (first second : List Insn) (r q : Register) (c : Context)
    (depth : ℕ) (x y w z : ValueOrError) (n1 x1 n2 x2 : ℕ)
    → Combines s p first r q c depth k x y w n1 x1
    → Converts s (p + size first) second R0 c depth k w z n2 x2
    → Combines s p (first ++ second) r q c depth k x y z (n1 + n2) (x1 + x2)

-- the calls of helpers
pub record CallsGive : Type 0 where
  pub one : (s : RunContext) (p : ℕ) (helper : ℤ) (f : ValueOrError → ValueOrError) (c : Context) (depth base : ℕ) (x : ValueOrError)
      → base ≤ frame_words → UnaryHelper helper f → Converts s p (Call helper ∷ []) R1 c depth base x (f x) 1 1
  pub two : (s : RunContext) (p k : ℕ) (helper : ℤ) (f : ValueOrError → ValueOrError → ValueOrError) (c : Context) (depth : ℕ)
      (x y : ValueOrError)
      → k < frame_words → BinaryHelper helper f → Combines s p (Call helper ∷ []) R1 R2 c depth k x y (f x y) 1 1
  pub swapped : (s : RunContext) (p k : ℕ) (helper : ℤ) (f : ValueOrError → ValueOrError → ValueOrError) (c : Context) (depth : ℕ)
      (x y : ValueOrError)
      → k < frame_words → BinaryHelper helper f → Combines s p (Call helper ∷ []) R2 R1 c depth k x y (f y x) 1 1
