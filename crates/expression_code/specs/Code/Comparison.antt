-- Comparisons of R1 with R2.
-- Emitted by `tree_code/src/code/operators.rt`; laws in `Gives/Comparison`, proofs in `proofs/Comparison`.
use Rattle.std.specs.Prelude.{pos, List, [], ◌∷◌, ◌++◌}
use Rattle.insn_codec.specs.declared.insn.Insn.{Insn, TheVariants.Call}
use Rattle.insn_codec.specs.declared.register.Register.TheVariants.{R0, R1}
use Rattle.expression_code.specs.Code.Logic.{not_tail}
use Rattle.expression_code.specs.Instructions.{mov_reg}

-- the negation of a truth, after the code that gives it
abbrev pub opposite_of : List Insn → List Insn
opposite_of tail = tail ++ mov_reg R1 R0 ∷ not_tail

-- R1 == R2
abbrev pub equal_tail : List Insn
equal_tail = Call (pos 9) ∷ []

-- R1 != R2
abbrev pub unequal_tail : List Insn
unequal_tail = opposite_of equal_tail

-- R1 < R2, and R2 > R1
abbrev pub less_tail : List Insn
less_tail = Call (pos 10) ∷ []

-- R1 >= R2, and R2 <= R1: R1 is not less than R2
abbrev pub not_less_tail : List Insn
not_less_tail = opposite_of less_tail

-- R1 in R2
abbrev pub member_tail : List Insn
member_tail = Call (pos 15) ∷ []
