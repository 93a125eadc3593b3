-- Expressions as plain data, independent of their layout in memory.
use Rattle.std.specs.Prelude.{ℕ, ◌+◌, ℤ, List, [], ◌∷◌, Bool, string_bytes, box_value}
use Rattle.cel_reader.specs.declared.operator.UnaryOperator.{UnaryOperator}
use Rattle.cel_reader.specs.declared.operator.BinaryOperator.{BinaryOperator}
use Rattle.cel_reader.specs.declared.literal.Literal.{Literal as CodeLiteral}
use Rattle.cel_reader.specs.declared.literal.Literal.TheVariants as of_code
use Rattle.cel_reader.specs.declared.expr.Expr.{Expr}
use Rattle.cel_reader.specs.declared.expr.Expr.TheOpen.{Expr-F}
use Rattle.cel_reader.specs.declared.expr.Expr.TheOpen as layer
use Rattle.cel_reader.specs.declared.expr.Expr.TheFolds.{fold-Expr}

-- a literal; a text by its bytes in UTF-8
pub data Literal : Type 0 where
  int : ℤ → Literal
  text : List ℕ → Literal
  truth : Bool → Literal
  null : Literal

mutual
  -- an expression, with names by their bytes (cel-spec, syntax): `select` is a field of an operand, `method` a call
  -- on one, and the parts of `ternary` are its condition and its values for true and for false
  pub data Tree : Type 0 where
    literal : Literal → Tree
    name : List ℕ → Tree
    select : Tree → List ℕ → Tree
    index : Tree → Tree → Tree
    call : List ℕ → Trees → Tree
    method : Tree → List ℕ → Trees → Tree
    unary : UnaryOperator → Tree → Tree
    binary : BinaryOperator → Tree → Tree → Tree
    ternary : Tree → Tree → Tree → Tree
    list : Trees → Tree
    map : TreeEntries → Tree

  -- a sequence of expressions: the arguments of a call, or the elements of a list
  pub data Trees : Type 0 where
    no_trees : Trees
    more_trees : Tree → Trees → Trees

  -- a sequence of map entries, each an expression for the key and one for the value
  pub data TreeEntries : Type 0 where
    no_entries : TreeEntries
    more_entries : Tree → Tree → TreeEntries → TreeEntries

-- the expressions of a list
abbrev pub trees : List Tree → Trees
trees [] = no_trees
trees (a ∷ more) = more_trees a (trees more)

-- the entries of a list of keys and values
abbrev pub entries : List (Tree × Tree) → TreeEntries
entries [] = no_entries
entries (e ∷ es) = more_entries e.0 e.1 (entries es)

-- the expressions as a list
abbrev pub tree_list : Trees → List Tree
tree_list no_trees = []
tree_list (more_trees a more) = a ∷ tree_list more

-- the entries as a list, each a key and its value
abbrev pub entry_list : TreeEntries → List (Tree × Tree)
entry_list no_entries = []
entry_list (more_entries k v more) = (k, v) ∷ entry_list more

-- the number of expressions
abbrev pub tree_count : Trees → ℕ
tree_count no_trees = 0
tree_count (more_trees a more) = tree_count more + 1

-- the number of entries
abbrev pub entry_count : TreeEntries → ℕ
entry_count no_entries = 0
entry_count (more_entries k v more) = entry_count more + 1

-- a literal of the code as plain data
abbrev pub literal_view : CodeLiteral → Literal
literal_view (of_code.Int z) = int z
literal_view (of_code.Text s) = text (string_bytes s)
literal_view (of_code.Bool b) = truth b
literal_view of_code.Null = null

-- one layer of an expression as plain data, from its converted children
abbrev pub view_step : Expr-F Tree → Tree
view_step (layer.Literal l) = literal (literal_view l)
view_step (layer.Name n) = name (string_bytes n)
view_step (layer.Select a n) = select (box_value a) (string_bytes n)
view_step (layer.Index a b) = index (box_value a) (box_value b)
view_step (layer.Call n more) = call (string_bytes n) (trees more.items)
view_step (layer.Method a n more) = method (box_value a) (string_bytes n) (trees more.items)
view_step (layer.Unary op a) = unary op (box_value a)
view_step (layer.Binary op a b) = binary op (box_value a) (box_value b)
view_step (layer.Ternary a b c) = ternary (box_value a) (box_value b) (box_value c)
view_step (layer.List more) = list (trees more.items)
view_step (layer.Map more) = map (entries more.items)

-- an expression of the code as plain data
abbrev pub view : Expr → Tree
view = fold-Expr Tree view_step

-- a key and its value as plain data
abbrev pub entry_view : Expr × Expr → Tree × Tree
entry_view e = (view e.0, view e.1)
