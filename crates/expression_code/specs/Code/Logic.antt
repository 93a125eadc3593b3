-- Logical operators and the conditional. The references of the error, false and true are 0, 2 and 3.
-- Emitted by `tree_code/src/code/logic.rt`; laws in `Gives/Logic`, proofs in `proofs/Logic`.
use Rattle.std.specs.Prelude.{ℕ, ◌+◌, ℤ, pos, List, [], ◌∷◌, ◌++◌}
use Rattle.insn_codec.specs.declared.comparison.Comparison.TheVariants.{Eq, Ne}
use Rattle.insn_codec.specs.declared.insn.Insn.{Insn, TheVariants.Call}
use Rattle.insn_codec.specs.declared.register.Register.TheVariants.{R0, R1}
use Rattle.expression_code.specs.Instructions.{load, mov_imm, ja, jump_if_imm, store}
use Rattle.expression_code.specs.Pieces.{size}

-- the reference of false
abbrev pub false_ref : ℤ
false_ref = pos 2

-- the reference of true
abbrev pub true_ref : ℤ
true_ref = pos 3

-- The result of an operator for which one truth decides. The right side is in R0; the left side, which does not
-- decide, is in word k. R0 is unchanged if it decides, or if both sides are the other truth.
abbrev pub absorbing_tail : ℤ → ℤ → ℕ → List Insn
absorbing_tail decides other k =
    load R1 k
    ∷ jump_if_imm Eq R0 decides 3
    ∷ jump_if_imm Ne R1 other 1
    ∷ jump_if_imm Eq R0 other 1
    ∷ mov_imm R0 (pos 0)
    ∷ []

-- the number of slots between the sides of an operator: a jump, and the store of the left side
abbrev pub left_slots : ℕ
left_slots = 2

-- the number of slots after a condition: two jumps
abbrev pub ternary_jump_slots : ℕ
ternary_jump_slots = 2

-- the number of slots between the branches: a jump
abbrev pub branch_slots : ℕ
branch_slots = 1

-- the number of slots, without those of the right side, that are skipped if the left side decides: its store, and
-- `absorbing_tail`
abbrev pub absorbed_slots : ℕ
absorbed_slots = 6

-- if the left side decides, the right side is skipped
abbrev pub absorbing_code : ℤ → ℤ → List Insn → List Insn → ℕ → List Insn
absorbing_code decides other left right k =
    left ++ jump_if_imm Eq R0 decides (size right + absorbed_slots) ∷ store k R0 ∷ (right ++ absorbing_tail decides other k)

-- left && right; the left side is in word k
abbrev pub and_code : List Insn → List Insn → ℕ → List Insn
and_code left right k = absorbing_code false_ref true_ref left right k

-- left || right; the left side is in word k
abbrev pub or_code : List Insn → List Insn → ℕ → List Insn
or_code left right k = absorbing_code true_ref false_ref left right k

-- !R1
abbrev pub not_tail : List Insn
not_tail = Call (pos 23) ∷ []

-- the first branch if the condition is true, the second if it is false, else the error
abbrev pub ternary_code : List Insn → List Insn → List Insn → List Insn
ternary_code condition if_true if_false =
    condition
    ++ jump_if_imm Eq R0 false_ref (size if_true + 2)
    ∷ jump_if_imm Ne R0 true_ref (size if_true + size if_false + 2)
    ∷ (if_true
    ++ ja (size if_false + 2)
    ∷ (if_false
    ++ ja 1
    ∷ mov_imm R0 (pos 0)
    ∷ []))
