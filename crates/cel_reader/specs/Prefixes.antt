-- Repetitions of one operator before an operand.
use Rattle.std.specs.Prelude.{◌≡◌, ℕ, zero, suc, List, ◌∷◌}
use Rattle.cel_tokens.specs.Token.{Word, mark}
use Rattle.cel_reader.specs.Tree as tree
use Rattle.cel_reader.specs.Tree.{Tree}
use Rattle.cel_reader.specs.Words.{unary_mark}
use Rattle.cel_reader.specs.Look.{at, IsNotNext}
use Rattle.cel_reader.specs.declared.operator.UnaryOperator.{UnaryOperator}

-- the words begin with the operator n times, followed by `rest`, which does not begin with it
pub data Prefixes : UnaryOperator → ℕ → List Word → List Word → Type 0 where
  none : {op : UnaryOperator} {ws : List Word} → IsNotNext (at (unary_mark op)) ws → Prefixes op 0 ws ws
  one_more : {op : UnaryOperator} {n : ℕ} {ws us rest : List Word} → ws ≡ mark (unary_mark op) ∷ us → Prefixes op n us rest
      → Prefixes op (suc n) ws rest

-- the operand with n operators before it
abbrev pub wrapped : UnaryOperator → ℕ → Tree → Tree
wrapped op zero a = a
wrapped op (suc n) a = tree.unary op (wrapped op n a)
