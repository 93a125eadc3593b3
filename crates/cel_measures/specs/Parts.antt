-- The parts of a source expression with their measures. Macros, `has` and `variables.v` are recognised here once, so
-- that each measure is a table with one row for each form.
use Rattle.std.specs.Prelude.{ℕ, Bool, true, false, List, [], ◌∷◌, Option, Some, None}
use Rattle.cel_reader.specs.Tree as tree
use Rattle.cel_reader.specs.Tree.{Tree, Trees, TreeEntries, no_trees, more_trees, no_entries, more_entries}
use Rattle.cel_macros.specs.declared.macros.Macro.{Macro}
use Rattle.cel_macros.specs.Macros.{macro_named, is_map, is_has, is_variables, name_of}

-- The form of an expression, with the measure of each of its parts. The name of a field, the selection inside `has`,
-- the word `variables` and the name that a macro declares are not parts.
pub data ExpressionForm (R : Type 0) : Type 0 where
  plain : ExpressionForm R  -- a literal or a name
  variable : List ℕ → ExpressionForm R  -- variables.v
  of_one : R → ExpressionForm R  -- e.f, has(e.f), or an operator with the operand e
  of_two : R → R → ExpressionForm R  -- e[k], or an operator with two operands
  ternary : R → R → R → ExpressionForm R  -- c ? a : b
  call : List R → ExpressionForm R  -- f(a, ..)
  method : R → List R → ExpressionForm R  -- e.f(a, ..)
  list : List R → ExpressionForm R  -- [a, ..]
  map : List (R × R) → ExpressionForm R  -- {k: v, ..}
  macro : R → R → ExpressionForm R  -- r.all(x, p); also exists, exists_one, filter and map
  map_where : R → R → R → ExpressionForm R  -- r.map(x, p, t)

-- a selection from an operand with this measure; b: the operand is the name `variables`
abbrev pub selected : {R : Type 0} → (b : Bool) → List ℕ → R → ExpressionForm R
selected true f a = variable f
selected false f a = of_one a

-- a call with arguments of these measures; b: the callee is `has`; operand: the operand of the first argument, if
-- that is a selection
abbrev pub called : {R : Type 0} → List R → (b : Bool) → (operand : Option R) → ExpressionForm R
called (x ∷ []) true (Some a) = of_one a
called arguments b operand = call arguments

-- a method call on an operand of measure a, with arguments of these measures, or a macro over that operand. w: the
-- macro with the method's name, if there is one; b: it is `map`; x: the first argument, if it is a name.
abbrev pub by_method : {R : Type 0} → R → List R → (w : Option Macro) → (b : Bool) → (x : Option (List ℕ)) → ExpressionForm R
by_method a (i ∷ p ∷ []) (Some m) b (Some x) = macro a p
by_method a (i ∷ p ∷ t ∷ []) m true (Some x) = map_where a p t
by_method a arguments m b x = method a arguments

-- the first argument, if it is a name
abbrev pub first_name : Trees → Option (List ℕ)
first_name no_trees = None
first_name (more_trees x more) = name_of x

unfoldable mutual
  -- the measure of an expression, by a table that computes it from the measures of the parts
  pub measured : {R : Type 0} → (ExpressionForm R → R) → Tree → R
  measured by (tree.literal l) = by plain
  measured by (tree.name n) = by plain
  measured by (tree.select a f) = by (selected (is_variables a) f (measured by a))
  measured by (tree.index a k) = by (of_two (measured by a) (measured by k))
  measured by (tree.unary op a) = by (of_one (measured by a))
  measured by (tree.binary op a b) = by (of_two (measured by a) (measured by b))
  measured by (tree.ternary c a b) = by (ternary (measured by c) (measured by a) (measured by b))
  measured by (tree.list items) = by (list (each_measured by items))
  measured by (tree.map es) = by (map (entries_measured by es))
  measured by (tree.call n arguments) = by (called (each_measured by arguments) (is_has n) (operand_measured by arguments))
  measured by (tree.method a n arguments) =
      by (by_method (measured by a) (each_measured by arguments) (macro_named n) (is_map n) (first_name arguments))

  -- the measure of e, if the first argument is a selection e.f
  pub operand_measured : {R : Type 0} → (ExpressionForm R → R) → Trees → Option R
  operand_measured by (more_trees (tree.select a f) more) = Some (measured by a)
  operand_measured by _ = None

  -- the measure of each of the expressions
  pub each_measured : {R : Type 0} → (ExpressionForm R → R) → Trees → List R
  each_measured by no_trees = []
  each_measured by (more_trees a more) = measured by a ∷ each_measured by more

  -- the measures of each key and its value
  pub entries_measured : {R : Type 0} → (ExpressionForm R → R) → TreeEntries → List (R × R)
  entries_measured by no_entries = []
  entries_measured by (more_entries k v more) = (measured by k, measured by v) ∷ entries_measured by more
