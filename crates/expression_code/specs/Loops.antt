-- Loops over the items of a range, which end early if no further item changes the result.
-- The code is listed in `Code/Folds`; proofs in `proofs/Folds` and `proofs/Loops`.
use Rattle.std.specs.Prelude.{◌≡◌, ℕ, ◌+◌, ◌<◌, Bool, true, false, pos, negsuc, List, [], ◌∷◌, ◌++◌, Option, Some, None, slice_get}
use Rattle.std.specs.Prelude.{fold as fold_left}
use Rattle.helper_table.specs.Laws.{Names}
use Rattle.insn_codec.specs.declared.alu_op.AluOp.TheVariants.{Add, Mov}
use Rattle.insn_codec.specs.declared.comparison.Comparison.TheVariants.{Eq, Ne}
use Rattle.insn_codec.specs.declared.insn.Insn.{Insn}
use Rattle.insn_codec.specs.declared.insn.Insn.TheVariants.{Alu, Branch, Call, Jump, Load, Store}
use Rattle.insn_codec.specs.declared.operand.Operand.TheVariants.{Imm, Reg}
use Rattle.insn_codec.specs.declared.register.Register.TheVariants.{R0, R1, R2, R10}
use Rattle.insn_codec.specs.declared.size.Size.TheVariants.{Dw}
use Rattle.insn_codec.specs.declared.width.Width.TheVariants.{W64}
use Rattle.value_store.specs.Value.{Value, ValueOrError, error, value}
use Rattle.cel_macros.specs.Environment.{bind}
use Rattle.cel_macros.specs.Macros.{range_of}
use Rattle.expression_code.specs.Limits.{fold_limit}
use Rattle.expression_code.specs.CpuState.{CpuState}
use Rattle.expression_code.specs.Engine.{RunContext, RunsTo}
use Rattle.expression_code.specs.Paths.{with_name}
use Rattle.expression_code.specs.Pieces.{size, IsCodeAt}
use Rattle.expression_code.specs.Contexts.{Context, IsWellFormedState, Evaluates, Preserves, LeavesValue, variable_count}
use Rattle.expression_code.specs.Words.{word_at, word_offset}

-- A loop uses five words of the frame: word k holds the range, and the words after it hold the number of its items,
-- the index of the next item, and references of the result so far and of the item.

-- the word with the number of the range's items
abbrev pub count_word : ℕ → ℕ
count_word k = k + 1

-- the word with the index of the next item
abbrev pub place_word : ℕ → ℕ
place_word k = k + 2

-- the word with the result so far
abbrev pub answer_word : ℕ → ℕ
answer_word k = k + 3

-- the word with the item
abbrev pub item_word : ℕ → ℕ
item_word k = k + 4

-- the first word after those of the loop
abbrev pub turn_word : ℕ → ℕ
turn_word k = k + 5

-- the number of slots of a fold before its first result: those of `range_tail`
abbrev pub range_slots : ℕ
range_slots = 9

-- the number of slots, without those of the first result and the loop, that are skipped if the range has no items:
-- the rest of `range_tail`, and the store of the first result
abbrev pub no_range_slots : ℕ
no_range_slots = 4

-- the number of slots between the first result and the turn: its store, and `loop_head`
abbrev pub store_and_head_slots : ℕ
store_and_head_slots = 7

-- the number of slots, without those of the turn, that a loop skips at its end: the rest of `loop_head`, and
-- `loop_tail` except its last slot
abbrev pub exit_slots : ℕ
exit_slots = 8

-- the number of slots, without those of the turn, that a loop jumps back, from its end to where the item is loaded
abbrev pub back_slots : ℕ
back_slots = 7

-- the number of slots of a fold between its range and its turn: those of `range_tail`, of the first result, of its
-- store and of `loop_head`
abbrev pub slots_before_turn : ℕ
slots_before_turn = 17

-- loads and stores the next item, or leaves the loop if there is none
abbrev pub loop_head : ℕ → ℕ → List Insn
loop_head k off =
    Load Dw R1 R10 (word_offset (count_word k))
    ∷ Load Dw R2 R10 (word_offset (place_word k))
    ∷ Branch Eq W64 R1 (Reg R2) (pos off)
    ∷ Load Dw R1 R10 (word_offset k)
    ∷ Call (pos 20)
    ∷ Store Dw R10 (word_offset (item_word k)) R0
    ∷ []

-- computes the index of the next item; jumps back if there is one, else loads the result
abbrev pub loop_tail : ℕ → ℕ → List Insn
loop_tail k off =
    Load Dw R2 R10 (word_offset (place_word k))
    ∷ Alu Add W64 R2 (Imm (pos 1))
    ∷ Store Dw R10 (word_offset (place_word k)) R2
    ∷ Load Dw R1 R10 (word_offset (count_word k))
    ∷ Branch Ne W64 R1 (Reg R2) (negsuc off)
    ∷ Load Dw R0 R10 (word_offset (answer_word k))
    ∷ []

-- the turn stores the next result in its word
abbrev pub loop_code : ℕ → List Insn → List Insn
loop_code k turn = loop_head k (size turn + exit_slots) ++ (turn ++ loop_tail k (size turn + back_slots))

-- the context inside a loop, where its name has the item as value
abbrev pub with_item : Context → ℕ → List ℕ → Value → Context
with_item c k n v = record { environment = bind n v c.environment; words = with_name n (item_word k) c.words; constants = c.constants }

-- a CPU state before the piece of a turn runs, for a result so far and an item
pub record AtTurn (c : Context) (depth k : ℕ) (acc : ValueOrError) (v : Value) (b : CpuState) : Type 0 where
  pub fits : IsWellFormedState c depth k b
  pub so_far : Names b.values.values (word_at depth (answer_word k) b) acc
  pub item : Names b.values.values (word_at depth (item_word k) b) (value v)

-- after the piece the next result is in its word, and the words before it are unchanged
pub record Turned (c : Context) (depth k : ℕ) (acc : ValueOrError) (old new : CpuState) : Type 0 where
  pub fits : IsWellFormedState c depth k new
  pub so_far : Names new.values.values (word_at depth (answer_word k) new) acc
  pub keeps : Preserves (variable_count c) depth (answer_word k) old new

-- For each item the piece at slot p computes the next result, and jumps to slot `end` if that is the last one. If
-- `is_fine` holds for a result, it holds for the next one.
pub record TurnGives (s : RunContext) (p end : ℕ) (turn : List Insn) (c : Context) (depth k : ℕ) (items : List Value)
    (f : ValueOrError → Value → ValueOrError) (is_last is_fine : ValueOrError → Bool) (steps charge : Value → ℕ) : Type 0 where
  pub goes_on : (b : CpuState) (acc : ValueOrError) (i : ℕ) (v : Value) → slice_get items i ≡ Some v → is_fine acc ≡ true
      → IsCodeAt s.image.code p turn → AtTurn c depth k acc v b → is_last acc ≡ false → is_last (f acc v) ≡ false
      → RunsTo s (steps v) (charge v) p b (p + size turn) (Turned c depth k (f acc v) b)
  pub leaves : (b : CpuState) (acc : ValueOrError) (i : ℕ) (v : Value) → slice_get items i ≡ Some v → is_fine acc ≡ true
      → IsCodeAt s.image.code p turn → AtTurn c depth k acc v b → is_last acc ≡ false → is_last (f acc v) ≡ true
      → RunsTo s (steps v) (charge v) p b end (LeavesValue c depth (turn_word k) (f acc v) b)
  pub last : (acc : ValueOrError) (v : Value) → is_last acc ≡ true → f acc v ≡ acc
  pub fine : (acc : ValueOrError) (i : ℕ) (v : Value) → slice_get items i ≡ Some v → is_fine acc ≡ true → is_fine (f acc v) ≡ true

-- the steps of a loop over its items, given the steps of each turn
abbrev pub loop_steps : (Value → ℕ) → List Value → ℕ
loop_steps steps [] = 4
loop_steps steps (v ∷ vs) = 3 + (steps v + (5 + loop_steps steps vs))

abbrev pub loop_charge : (Value → ℕ) → List Value → ℕ
loop_charge charge [] = 0
loop_charge charge (v ∷ vs) = 1 + (charge v + loop_charge charge vs)

-- R0 holds the range; if it is neither a list nor a map, the result is the error
abbrev pub range_tail : ℕ → ℕ → List Insn
range_tail k off =
    Store Dw R10 (word_offset k) R0
    ∷ Alu Mov W64 R1 (Reg R0)
    ∷ Call (pos 21)
    ∷ Branch Ne W64 R0 (Imm (negsuc 0)) (pos 2)
    ∷ Alu Mov W64 R0 (Imm (pos 0))
    ∷ Jump (pos off)
    ∷ Store Dw R10 (word_offset (count_word k)) R0
    ∷ Alu Mov W64 R0 (Imm (pos 0))
    ∷ Store Dw R10 (word_offset (place_word k)) R0
    ∷ []

-- the range, the result before the first item, and the loop
abbrev pub fold_code : ℕ → List Insn → List Insn → List Insn → List Insn
fold_code k range first turn =
    range ++ (range_tail k (size first + size (loop_code k turn) + no_range_slots)
    ++ (first ++ (Store Dw R10 (word_offset (answer_word k)) R0 ∷ loop_code k turn)))

-- the fold over the items of a range, or the error if the value is not a range
abbrev pub fold_of : (ValueOrError → Value → ValueOrError) → ValueOrError → Option (List Value) → ValueOrError
fold_of f acc (Some items) = fold_left f acc items
fold_of f acc None = error

abbrev pub fold_steps : (Value → ℕ) → Option (List Value) → ℕ
fold_steps steps (Some items) = loop_steps steps items
fold_steps steps None = 0

abbrev pub fold_charge : (Value → ℕ) → Option (List Value) → ℕ
fold_charge charge (Some items) = loop_charge charge items
fold_charge charge None = 0

-- the pieces of a range, a first result and a turn can be composed to a fold, with 10 steps and 1 of charge of its
-- own
abbrev pub FoldGives : Type 0
FoldGives = (s : RunContext) (p k depth n1 x1 n2 x2 : ℕ) (range first turn : List Insn) (c : Context) (r acc : ValueOrError)
    (f : ValueOrError → Value → ValueOrError) (is_last is_fine : ValueOrError → Bool) (steps charge : Value → ℕ)
    → k < fold_limit → is_last acc ≡ false → is_fine acc ≡ true
    → Evaluates s p range c depth k r n1 x1
    → Evaluates s (p + size range + range_slots) first c depth (answer_word k) acc n2 x2
    → ((items : List Value) → range_of r ≡ Some items
    → TurnGives s (p + size range + range_slots + size first + store_and_head_slots) (p + size (fold_code k range first turn)) turn
    c depth k items f is_last is_fine steps charge)
    → Evaluates s p (fold_code k range first turn) c depth k (fold_of f acc (range_of r))
    (n1 + (9 + (n2 + (1 + fold_steps steps (range_of r))))) (x1 + (1 + (x2 + fold_charge charge (range_of r))))
