-- Arithmetic on 64-bit ints, and concatenation of texts and lists. An overflow is found by comparing words; that of a
-- product by dividing it back.
-- Emitted by `tree_code/src/code/arithmetic.rt`; laws in `Gives/Arithmetic`, proofs in `proofs/Additions`,
-- `proofs/Multiplications`, `proofs/Products`, `proofs/Negation` and `proofs/Ints`.
use Rattle.std.specs.Prelude.{ℕ, ◌+◌, ◌^◌, ℤ, pos, negsuc, List, [], ◌∷◌, ◌++◌}
use Rattle.insn_codec.specs.declared.alu_op.AluOp.{AluOp, TheVariants.Add, TheVariants.Sub, TheVariants.Mul, TheVariants.Sdiv}
use Rattle.insn_codec.specs.declared.comparison.Comparison.{Comparison}
use Rattle.insn_codec.specs.declared.comparison.Comparison.TheVariants.{Eq, Ne, Sge, Sgt, Sle, Slt}
use Rattle.insn_codec.specs.declared.insn.Insn.{Insn, TheVariants.Call, TheVariants.Neg}
use Rattle.insn_codec.specs.declared.register.Register.TheVariants.{R0, R1, R2, R6, R7}
use Rattle.insn_codec.specs.declared.width.Width.TheVariants.{W64}
use Rattle.expression_code.specs.Instructions.{compute, mov_reg, lddw, mov_imm, ja, jump_if_imm, jump_if_reg}

-- the kind of an int, as helper 1 returns it
abbrev pub int_kind : ℤ
int_kind = pos 3

-- the word of the smallest int
abbrev pub least_word : ℕ
least_word = 2 ^ 63

-- the number of slots of `int_operands` after its test of R6, and after that of R7
abbrev pub after_left_kind : ℕ
after_left_kind = 9

abbrev pub after_right_kind : ℕ
after_right_kind = 6

-- the slot of a tail for operands that are not ints: in a sum they are concatenated, in a difference, product,
-- quotient or remainder the error is loaded
abbrev pub sum_join_slot : ℕ
sum_join_slot = 10

abbrev pub difference_error_slot : ℕ
difference_error_slot = 8

abbrev pub product_error_slot : ℕ
product_error_slot = 12

abbrev pub divided_error_slot : ℕ
divided_error_slot = 9

-- replaces the references in R6 and R7 by their ints; if one is not an int, skips this number of further slots
abbrev pub int_operands : ℕ → List Insn
int_operands off =
    mov_reg R1 R6
    ∷ Call (pos 1)
    ∷ jump_if_imm Ne R0 int_kind (off + after_left_kind)
    ∷ mov_reg R1 R7
    ∷ Call (pos 1)
    ∷ jump_if_imm Ne R0 int_kind (off + after_right_kind)
    ∷ mov_reg R1 R6
    ∷ Call (pos 2)
    ∷ mov_reg R6 R0
    ∷ mov_reg R1 R7
    ∷ Call (pos 2)
    ∷ mov_reg R7 R0
    ∷ []

-- the int of R1, followed by the error
abbrev pub int_answer : List Insn
int_answer = Call (pos 3) ∷ ja 1 ∷ mov_imm R0 (pos 0) ∷ []

-- The sum or difference of R6 and R7. If R7 is negative, it fits unless the one comparison with R6 holds, otherwise
-- unless the other one holds.
abbrev pub checked_tail : AluOp → Comparison → Comparison → List Insn
checked_tail op below above =
    mov_reg R1 R6
    ∷ compute op R1 R7
    ∷ jump_if_imm Slt R7 (pos 0) 2
    ∷ jump_if_reg above R1 R6 4
    ∷ ja 1
    ∷ jump_if_reg below R1 R6 2
    ∷ int_answer

-- R6 + R7
abbrev pub sum_tail : List Insn
sum_tail = checked_tail Add Sge Slt

-- R6 - R7
abbrev pub difference_tail : List Insn
difference_tail = checked_tail Sub Sle Sgt

-- R6 * R7. It fits if R7 is 0, or if the product divided by R7 is R6 and the operands are not the smallest int and
-- -1.
unfoldable pub product_tail : List Insn
product_tail =
    mov_reg R1 R6
    ∷ compute Mul R1 R7
    ∷ jump_if_imm Eq R7 (pos 0) 7
    ∷ jump_if_imm Ne R7 (negsuc 0) 3
    ∷ lddw R2 least_word
    ∷ jump_if_reg Eq R6 R2 5
    ∷ mov_reg R2 R1
    ∷ compute Sdiv R2 R7
    ∷ jump_if_reg Ne R2 R6 2
    ∷ int_answer

-- R6 / R7 or R6 % R7; the error if R7 is 0, and for the smallest int and -1
abbrev pub divided_tail : AluOp → List Insn
divided_tail op =
    jump_if_imm Eq R7 (pos 0) 8
    ∷ jump_if_imm Ne R7 (negsuc 0) 3
    ∷ lddw R2 least_word
    ∷ jump_if_reg Eq R6 R2 4
    ∷ mov_reg R1 R6
    ∷ compute op R1 R7
    ∷ int_answer

-- R6 - R7 for the values in them
abbrev pub difference_code : List Insn
difference_code = int_operands difference_error_slot ++ difference_tail

-- R6 * R7
abbrev pub product_code : List Insn
product_code = int_operands product_error_slot ++ product_tail

-- R6 / R7, or R6 % R7
abbrev pub divided_code : AluOp → List Insn
divided_code op = int_operands divided_error_slot ++ divided_tail op

-- R6 + R7: the sum of two ints, otherwise the concatenation
abbrev pub sum_code : List Insn
sum_code = int_operands sum_join_slot ++ (sum_tail ++ ja 3 ∷ mov_reg R1 R6 ∷ mov_reg R2 R7 ∷ Call (pos 11) ∷ [])

-- -R6: the error for the smallest int, and for a value that is not an int
unfoldable pub negation_tail : List Insn
negation_tail =
    mov_reg R1 R6
    ∷ Call (pos 1)
    ∷ jump_if_imm Ne R0 int_kind 9
    ∷ mov_reg R1 R6
    ∷ Call (pos 2)
    ∷ mov_reg R1 R0
    ∷ lddw R2 least_word
    ∷ jump_if_reg Eq R1 R2 3
    ∷ Neg W64 R1
    ∷ int_answer
