-- The logical operators and the conditional.
-- The code is listed in `Code/Logic`; proofs in `proofs/Logic`.
use Rattle.std.specs.Prelude.{◌≡◌, ℕ, ◌+◌, ◌<◌, ◌≤◌, List}
use Rattle.insn_codec.specs.declared.insn.Insn.{Insn}
use Rattle.insn_codec.specs.declared.register.Register.TheVariants.{R1}
use Rattle.value_store.specs.Value.{ValueOrError}
use Rattle.cel_macros.specs.Logic.{Yes, No, and_of, chosen, not_of, or_of, ternary_of, truth}
use Rattle.expression_code.specs.Limits.{word_limit, frame_words}
use Rattle.expression_code.specs.Code.Logic.{and_code, not_tail, or_code, ternary_code}
use Rattle.expression_code.specs.Contexts.{Context, Evaluates}
use Rattle.expression_code.specs.Engine.{RunContext}
use Rattle.expression_code.specs.Operators.{Converts}
use Rattle.expression_code.specs.Pieces.{size}

-- an operator with this code, for which one truth decides, with 7 steps of its own; if the left side decides, the right
-- side is skipped
abbrev pub AbsorbingGives : (List Insn → List Insn → ℕ → List Insn) → (ValueOrError → ValueOrError → ValueOrError) → Type 0
AbsorbingGives code f =
    (s : RunContext) (p k : ℕ) (left right : List Insn) (c : Context) (depth : ℕ) (x y : ValueOrError) (n1 x1 n2 x2 : ℕ)
    → k < word_limit
    → Evaluates s p left c depth k x n1 x1
    → Evaluates s (p + size left + 2) right c depth (k + 1) y n2 x2
    → Evaluates s p (code left right k) c depth k (f x y) (n1 + (2 + (n2 + 5))) (x1 + x2)

-- only the chosen branch runs
abbrev pub TernaryGives : Type 0
TernaryGives =
    (s : RunContext) (p base : ℕ) (condition yes no : List Insn) (c : Context) (depth : ℕ) (t x y : ValueOrError) (n1 x1 n2 x2 n3 x3 : ℕ)
    → base ≤ frame_words
    → Evaluates s p condition c depth base t n1 x1
    → (truth t ≡ Yes → Evaluates s (p + size condition + 2) yes c depth base x n2 x2)
    → (truth t ≡ No → Evaluates s (p + size condition + 2 + size yes + 1) no c depth base y n3 x3)
    → Evaluates s p (ternary_code condition yes no) c depth base (ternary_of t x y) (n1 + (2 + (chosen (truth t) n2 n3 0 + 1)))
    (x1 + chosen (truth t) x2 x3 0)

-- the results of the code of each logical operator and of the conditional
pub record LogicGives : Type 0 where
  pub and : AbsorbingGives and_code and_of
  pub or : AbsorbingGives or_code or_of
  pub not : (s : RunContext) (p : ℕ) (c : Context) (depth base : ℕ) (x : ValueOrError) → base ≤ frame_words
      → Converts s p not_tail R1 c depth base x (not_of x) 1 1
  pub ternary : TernaryGives
