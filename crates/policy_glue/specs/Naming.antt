-- Names in expressions.
use Rattle.std.specs.Prelude.{ℕ, ◌||◌, Bool, false, List, [], ◌∷◌, bytes_eq, codes}
use Rattle.std.specs.List.{list_any}
use Rattle.cel_reader.specs.Tree.{Tree, Trees, TreeEntries, literal, name, select, index, call, method, unary, binary, ternary, list, map}
use Rattle.cel_reader.specs.Tree.{no_trees, more_trees, no_entries, more_entries}
use Rattle.policy_glue.specs.Checking.{ReadsTree}
use Rattle.verdicts.specs.Policy.{NamedExpression}
use Rattle.policy_code.specs.Trees.{PolicyTree}

unfoldable mutual
  -- whether some node of the expression is the name n, also one that a macro binds
  pub names : List ℕ → Tree → Bool
  names n (literal l) = false
  names n (name m) = bytes_eq m n
  names n (select a f) = names n a
  names n (index a k) = names n a || names n k
  names n (call f arguments) = one_names n arguments
  names n (method a f arguments) = names n a || one_names n arguments
  names n (unary op a) = names n a
  names n (binary op a b) = names n a || names n b
  names n (ternary c a b) = names n c || (names n a || names n b)
  names n (list items) = one_names n items
  names n (map es) = one_entry_names n es

  -- whether some node of one of the expressions is
  pub one_names : List ℕ → Trees → Bool
  one_names n no_trees = false
  one_names n (more_trees a more) = names n a || one_names n more

  -- whether some node of a key or a value is
  pub one_entry_names : List ℕ → TreeEntries → Bool
  one_entry_names n no_entries = false
  one_entry_names n (more_entries k v more) = names n k || (names n v || one_entry_names n more)

-- the name of the root for the namespace of a request
abbrev pub namespace_name : List ℕ
namespace_name = codes "namespaceObject"

-- whether a match condition of the policy names it
abbrev pub conditions_name_namespace : PolicyTree → Bool
conditions_name_namespace t = list_any (names namespace_name) t.conditions

-- each expression is the tree beside it
abbrev pub EachReads : List NamedExpression → List Tree → Type 0
EachReads [] [] = Unit {0}
EachReads (n ∷ ns) (a ∷ more) = ReadsTree n.expression a × EachReads ns more
EachReads _ _ = ⊥
