-- Arithmetic on ints, and concatenation.
-- The code is listed in `Code/Arithmetic`; proofs in `proofs/Additions`, `proofs/Multiplications`, `proofs/Products`,
-- `proofs/Negation` and `proofs/Ints`.
use Rattle.std.specs.Prelude.{ℕ, ◌+◌, ◌<◌, ◌≤◌, Some}
use Rattle.insn_codec.specs.declared.alu_op.AluOp.TheVariants.{Sdiv, Smod}
use Rattle.insn_codec.specs.declared.register.Register.TheVariants.{R6, R7}
use Rattle.value_store.specs.Calls.{joined}
use Rattle.value_store.specs.Value.{ValueOrError}
use Rattle.cel_macros.specs.Arithmetic.{difference_of, negation_of, product_of, quotient_of, remainder_of, sum_of}
use Rattle.expression_code.specs.Limits.{frame_words}
use Rattle.expression_code.specs.Code.Arithmetic.{difference_code, divided_code, negation_tail, product_code, sum_code}
use Rattle.expression_code.specs.Contexts.{Context}
use Rattle.expression_code.specs.Engine.{RunContext}
use Rattle.expression_code.specs.Gives.Comparison.{TailGives}
use Rattle.expression_code.specs.Helpers.{joined_length}
use Rattle.expression_code.specs.Operators.{Combines, Converts}

-- the results of the code of + and -
pub record AdditionsGive : Type 0 where
  pub sum : (s : RunContext) (p k : ℕ) (c : Context) (depth : ℕ) (x y : ValueOrError) → k < frame_words
      → Combines s p sum_code R6 R7 c depth k x y (sum_of x y) 20 (5 + joined_length (joined (Some x) (Some y)))
  pub difference : TailGives difference_code R6 R7 difference_of 19 5

-- the results of the code of *, / and %
pub record ProductsGive : Type 0 where
  pub product : TailGives product_code R6 R7 product_of 23 5
  pub quotient : TailGives (divided_code Sdiv) R6 R7 quotient_of 20 5
  pub remainder : TailGives (divided_code Smod) R6 R7 remainder_of 20 5

-- the result of the code of negation
abbrev pub NegationGives : Type 0
NegationGives = (s : RunContext) (p : ℕ) (c : Context) (depth base : ℕ) (x : ValueOrError) → base ≤ frame_words
    → Converts s p negation_tail R6 c depth base x (negation_of x) 11 3
