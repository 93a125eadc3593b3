-- Literals of null, truths, ints and texts, and names.
-- The code is listed in `Code/Literals`, `Code/Names` and `Code/Leaves`; proofs in `proofs/Leaves`.
use Rattle.std.specs.Prelude.{◌≡◌, ℕ, ℤ, pos, ◌+◌, ◌≤◌, Bool, true, List, length, Some, FitsSigned}
use Rattle.std.specs.Int.{w64}
use Rattle.std.specs.Str.{is_utf8}
use Rattle.value_store.specs.Value.{error, value, null, boolean, int, text}
use Rattle.cel_macros.specs.Environment.{name_value}
use Rattle.expression_code.specs.Limits.{frame_words}
use Rattle.expression_code.specs.Code.Literals.{int_code, null_code, null_leaf, text_code, truth_code, truth_leaf}
use Rattle.expression_code.specs.Code.Leaves.{leaf_code}
use Rattle.expression_code.specs.Code.Names.{name_code, name_leaf}
use Rattle.expression_code.specs.Contexts.{Context, Evaluates}
use Rattle.expression_code.specs.Engine.{RunContext}
use Rattle.expression_code.specs.Gives.Selection.{HasText}
use Rattle.expression_code.specs.Operators.{IsLeafOf}
use Rattle.expression_code.specs.declared.simple_operand.SimpleOperand.TheVariants.{Reference}

-- the values of simple operands
pub record LeavesName : Type 0 where
  pub null : (c : Context) (depth base : ℕ) → IsLeafOf c depth base (Some null_leaf) (value null)
  pub truth : (c : Context) (depth base : ℕ) (b : Bool) → IsLeafOf c depth base (Some (truth_leaf b)) (value (boolean b))
  pub name : (c : Context) (depth base : ℕ) (n : List ℕ) → base ≤ frame_words
      → IsLeafOf c depth base (Some (name_leaf n c.words.items)) (name_value n c.environment)

-- the results of the code of literals and names
pub record LeavesGive : Type 0 where
  pub null : (s : RunContext) (p : ℕ) (c : Context) (depth base : ℕ) → base ≤ frame_words
      → Evaluates s p null_code c depth base (value null) 1 0
  pub truth : (s : RunContext) (p : ℕ) (c : Context) (depth base : ℕ) (b : Bool) → base ≤ frame_words
      → Evaluates s p (truth_code b) c depth base (value (boolean b)) 1 0
  pub int : (s : RunContext) (p : ℕ) (c : Context) (depth base : ℕ) (z : ℤ) → base ≤ frame_words → FitsSigned w64 z
      → Evaluates s p (int_code z) c depth base (value (int z)) 2 1
  pub text : (s : RunContext) (p : ℕ) (c : Context) (depth base : ℕ) (address : ℕ) (t : List ℕ) → base ≤ frame_words
      → HasText c.constants address t
      → is_utf8 t ≡ true → Evaluates s p (text_code address (length t)) c depth base (value (text t)) 3 (1 + length t)
  pub name : (s : RunContext) (p : ℕ) (c : Context) (depth base : ℕ) (n : List ℕ) → base ≤ frame_words
      → Evaluates s p (name_code n c.words.items) c depth base (name_value n c.environment) 1 0
  pub error : (s : RunContext) (p : ℕ) (c : Context) (depth base : ℕ) → base ≤ frame_words
      → Evaluates s p (leaf_code (Reference (pos 0))) c depth base error 1 0
