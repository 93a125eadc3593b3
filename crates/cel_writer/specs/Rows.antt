-- Texts of expressions, worked by hand.
use Rattle.std.specs.Prelude.{◌≡◌, pos, neg_ℤ, [], ◌∷◌, codes, true}
use Prim.Native.String.{String}
use Rattle.cel_reader.specs.Tree as tree
use Rattle.cel_reader.specs.Tree.{Tree, trees, entries}
use Rattle.cel_reader.specs.declared.operator.UnaryOperator.{TheVariants.Not, TheVariants.Negate}
use Rattle.cel_reader.specs.declared.operator.BinaryOperator.{TheVariants.Or, TheVariants.And, TheVariants.Subtract}
use Rattle.cel_writer.specs.Printed.{printed}

abbrev name : String → Tree
name n = tree.name (codes n)

abbrev num : Tree
num = tree.literal (tree.int (pos 1))

-- operators of one kind need no brackets on the left, others do; a sign before an int is an operator in brackets
pub record PrintedRowsHold : Type 0 where
  pub chain : printed (tree.binary Or (tree.binary Or (name "a") (name "b")) (name "c")) ≡ codes "(a || b || c)"
  pub right : printed (tree.binary Subtract (name "a") (tree.binary Subtract (name "b") (name "c"))) ≡ codes "(a - (b - c))"
  pub mixed : printed (tree.binary Or (tree.binary And (name "a") (name "b")) (name "c")) ≡ codes "((a && b) || c)"
  pub sign : printed (tree.unary Negate num) ≡ codes "(-(1))"
  pub negative : printed (tree.literal (tree.int (neg_ℤ (pos 1)))) ≡ codes "-1"
  pub call : printed (tree.call (codes "size") (trees (name "a" ∷ []))) ≡ codes "size(a)"
  pub method : printed (tree.method (tree.select (name "a") (codes "f")) (codes "all") (trees (name "x" ∷ name "y" ∷ []))) ≡ codes "a.f.all(x, y)"
  pub choice : printed (tree.ternary (name "c") (tree.index (name "a") num) (tree.literal tree.null)) ≡ codes "(c ? a[1] : null)"
  pub list : printed (tree.list (trees (num ∷ tree.literal (tree.truth true) ∷ []))) ≡ codes "[1, true]"
  pub map : printed (tree.map (entries ((tree.literal (tree.text (codes "k\"")), tree.unary Not (name "a")) ∷ []))) ≡ codes "{\"k\\\"\": (!(a))}"
