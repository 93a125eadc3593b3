-- Macros: loops over the items of a list or the keys of a map. Words of the frame hold the result so far and the
-- item. Emitted by `tree_code/src/code/folds.rt`; laws in `Gives/Folds` and `Loops`, proofs in `proofs/Folds` and
-- `proofs/Loops`.
use Rattle.std.specs.Prelude.{ℕ, ◌+◌, ℤ, pos, List, [], ◌∷◌, ◌++◌}
use Rattle.insn_codec.specs.declared.comparison.Comparison.TheVariants.{Eq, Ne}
use Rattle.insn_codec.specs.declared.insn.Insn.{Insn, TheVariants.Call}
use Rattle.insn_codec.specs.declared.register.Register.TheVariants.{R0, R1, R2}
use Rattle.cel_macros.specs.declared.macros.Macro.{Macro, TheVariants.All, TheVariants.Exists, TheVariants.ExistsOne, TheVariants.Filter, TheVariants.Map}
use Rattle.expression_code.specs.Code.Logic.{false_ref, true_ref}
use Rattle.expression_code.specs.Instructions.{mov_reg, load, mov_imm, ja, jump_if_imm, store}
use Rattle.expression_code.specs.Loops.{answer_word, fold_code, item_word}
use Rattle.expression_code.specs.Pieces.{size}

-- `all` and `exists`. R0 holds the predicate's value, and the result so far does not decide. A value that decides
-- ends the loop, the other truth keeps the result, and any other value makes it the error.
abbrev pub absorbing_turn : ℤ → ℤ → ℕ → List Insn
absorbing_turn decides other k =
    jump_if_imm Eq R0 decides 9
    ∷ jump_if_imm Eq R0 other 2
    ∷ mov_imm R0 (pos 0)
    ∷ store (answer_word k) R0
    ∷ []

-- `exists_one`. The result so far is false if the predicate was never true, true if it was once, null if it was more
-- often, or the error.
unfoldable pub exists_one_turn : ℕ → List Insn
exists_one_turn k =
    jump_if_imm Eq R0 false_ref 8
    ∷ jump_if_imm Ne R0 true_ref 5
    ∷ load R1 (answer_word k)
    ∷ jump_if_imm Eq R1 (pos 0) 5
    ∷ jump_if_imm Eq R1 false_ref 3
    ∷ mov_imm R0 (pos 1)
    ∷ ja 1
    ∷ mov_imm R0 (pos 0)
    ∷ store (answer_word k) R0
    ∷ []

-- null becomes false at the end: more than once is not once
abbrev pub exists_one_end : List Insn
exists_one_end = jump_if_imm Eq R0 (pos 0) 2 ∷ jump_if_imm Eq R0 true_ref 1 ∷ mov_imm R0 false_ref ∷ []

-- `filter`: appends the item to the result so far if the predicate is true
unfoldable pub filter_turn : ℕ → List Insn
filter_turn k =
    jump_if_imm Eq R0 false_ref 7
    ∷ jump_if_imm Ne R0 true_ref 4
    ∷ load R1 (answer_word k)
    ∷ load R2 (item_word k)
    ∷ Call (pos 17)
    ∷ ja 1
    ∷ mov_imm R0 (pos 0)
    ∷ store (answer_word k) R0
    ∷ []

-- `map`: appends the transform's value to the result so far
abbrev pub map_turn : ℕ → List Insn
map_turn k = mov_reg R2 R0 ∷ load R1 (answer_word k) ∷ Call (pos 17) ∷ store (answer_word k) R0 ∷ []

-- the number of slots between the predicate and the transform: two jumps
abbrev pub predicate_slots : ℕ
predicate_slots = 2

-- `map` with a predicate, whose value is in R0: runs the transform if it is true
abbrev pub map_where_turn : List Insn → ℕ → List Insn
map_where_turn transform k =
    jump_if_imm Eq R0 false_ref (size transform + 7)
    ∷ jump_if_imm Ne R0 true_ref (size transform + 4)
    ∷ (transform
    ++ mov_reg R2 R0
    ∷ load R1 (answer_word k)
    ∷ Call (pos 17)
    ∷ ja 1
    ∷ mov_imm R0 (pos 0)
    ∷ store (answer_word k) R0
    ∷ [])

-- the result before the first item
abbrev pub first_true : List Insn
first_true = mov_imm R0 true_ref ∷ []

abbrev pub first_false : List Insn
first_false = mov_imm R0 false_ref ∷ []

abbrev pub first_empty : List Insn
first_empty = Call (pos 16) ∷ []

abbrev pub all_code : ℕ → List Insn → List Insn → List Insn
all_code k range predicate = fold_code k range first_true (predicate ++ absorbing_turn false_ref true_ref k)

abbrev pub exists_code : ℕ → List Insn → List Insn → List Insn
exists_code k range predicate = fold_code k range first_false (predicate ++ absorbing_turn true_ref false_ref k)

abbrev pub exists_one_code : ℕ → List Insn → List Insn → List Insn
exists_one_code k range predicate = fold_code k range first_false (predicate ++ exists_one_turn k) ++ exists_one_end

abbrev pub filter_code : ℕ → List Insn → List Insn → List Insn
filter_code k range predicate = fold_code k range first_empty (predicate ++ filter_turn k)

abbrev pub map_code : ℕ → List Insn → List Insn → List Insn
map_code k range transform = fold_code k range first_empty (transform ++ map_turn k)

abbrev pub map_where_code : ℕ → List Insn → List Insn → List Insn → List Insn
map_where_code k range predicate transform = fold_code k range first_empty (predicate ++ map_where_turn transform k)

abbrev pub macro_code : Macro → ℕ → List Insn → List Insn → List Insn
macro_code All k range part = all_code k range part
macro_code Exists k range part = exists_code k range part
macro_code ExistsOne k range part = exists_one_code k range part
macro_code Filter k range part = filter_code k range part
macro_code Map k range part = map_code k range part
