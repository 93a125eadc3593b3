-- Comparisons and membership.
-- The code is listed in `Code/Comparison`; proofs in `proofs/Comparison`.
use Rattle.std.specs.Prelude.{ℕ, ◌<◌, List}
use Rattle.insn_codec.specs.declared.insn.Insn.{Insn}
use Rattle.insn_codec.specs.declared.register.Register.{Register, TheVariants.R1, TheVariants.R2}
use Rattle.value_store.specs.Value.{ValueOrError}
use Rattle.cel_macros.specs.Comparison.{equal_of, greater_equal_of, greater_of, less_equal_of, less_of, member_of, unequal_of}
use Rattle.expression_code.specs.Limits.{frame_words}
use Rattle.expression_code.specs.Code.Comparison.{equal_tail, less_tail, member_tail, not_less_tail, unequal_tail}
use Rattle.expression_code.specs.Contexts.{Context}
use Rattle.expression_code.specs.Engine.{RunContext}
use Rattle.expression_code.specs.Operators.{Combines}

-- the piece after two operands gives the operation's value, within this number of steps and this charge
abbrev pub TailGives : List Insn → Register → Register → (ValueOrError → ValueOrError → ValueOrError) → ℕ → ℕ → Type 0
TailGives tail r q f steps charge =
    (s : RunContext) (p k : ℕ) (c : Context) (depth : ℕ) (x y : ValueOrError) → k < frame_words
    → Combines s p tail r q c depth k x y (f x y) steps charge

-- the results of the code of each comparison
pub record ComparisonGives : Type 0 where
  pub equal : TailGives equal_tail R1 R2 equal_of 1 1
  pub unequal : TailGives unequal_tail R1 R2 unequal_of 3 2
  pub less : TailGives less_tail R1 R2 less_of 1 1
  pub less_equal : TailGives not_less_tail R2 R1 less_equal_of 3 2
  pub greater : TailGives less_tail R2 R1 greater_of 1 1
  pub greater_equal : TailGives not_less_tail R1 R2 greater_equal_of 3 2
  pub member : TailGives member_tail R1 R2 member_of 1 1
