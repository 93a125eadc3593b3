-- Expressions with their macros expanded: each fold records its macro.
use Rattle.std.specs.Prelude.{ℕ, Bool, true, false, List, Option, Some, codes}
use Rattle.cel_reader.specs.Tree as tree
use Rattle.cel_reader.specs.Tree.{Tree, Trees, TreeEntries, no_trees, more_trees, no_entries, more_entries}
use Rattle.cel_reader.specs.declared.operator.BinaryOperator.{BinaryOperator}
use Rattle.cel_reader.specs.declared.operator.UnaryOperator.{UnaryOperator}
use Rattle.cel_macros.specs.declared.macros.Macro.{Macro, TheVariants.Map}
use Rattle.cel_macros.specs.Callee.{Callee, callee_name, callee_named}
use Rattle.cel_macros.specs.Macros.{macro_name, macro_named, variables_name, is_map, is_has, is_variables, name_of, field_name}

mutual
  -- an expanded expression: like one in the source, except that `variables.v`, `has(e.f)` and the macros
  -- over a range are forms of their own; a fold has its iteration name between its macro and its range,
  -- and fold_map has a predicate before its transform
  pub data Core : Type 0 where
    literal : tree.Literal → Core
    name : List ℕ → Core
    variable : List ℕ → Core
    select : Core → List ℕ → Core
    has : Core → List ℕ → Core
    index : Core → Core → Core
    call : Callee → Cores → Core
    method : Core → Callee → Cores → Core
    unary : UnaryOperator → Core → Core
    binary : BinaryOperator → Core → Core → Core
    ternary : Core → Core → Core → Core
    list : Cores → Core
    map : CoreEntries → Core
    fold : Macro → List ℕ → Core → Core → Core
    fold_map : List ℕ → Core → Core → Core → Core

  -- a sequence of expanded expressions: the arguments of a call, or the elements of a list
  pub data Cores : Type 0 where
    no_cores : Cores
    more_cores : Core → Cores → Cores

  -- a sequence of map entries, each an expanded expression for the key and one for the value
  pub data CoreEntries : Type 0 where
    no_core_entries : CoreEntries
    more_core_entries : Core → Core → CoreEntries → CoreEntries

unfoldable mutual
  -- the source expression of an expanded one
  pub plain_tree : Core → Tree
  plain_tree (literal l) = tree.literal l
  plain_tree (name n) = tree.name n
  plain_tree (variable v) = tree.select (tree.name variables_name) v
  plain_tree (select a f) = tree.select (plain_tree a) f
  plain_tree (has a f) = tree.call (codes "has") (more_trees (tree.select (plain_tree a) f) no_trees)
  plain_tree (index a k) = tree.index (plain_tree a) (plain_tree k)
  plain_tree (call c arguments) = tree.call (callee_name c) (plain_trees arguments)
  plain_tree (method a c arguments) = tree.method (plain_tree a) (callee_name c) (plain_trees arguments)
  plain_tree (unary op a) = tree.unary op (plain_tree a)
  plain_tree (binary op a b) = tree.binary op (plain_tree a) (plain_tree b)
  plain_tree (ternary c a b) = tree.ternary (plain_tree c) (plain_tree a) (plain_tree b)
  plain_tree (list items) = tree.list (plain_trees items)
  plain_tree (map es) = tree.map (plain_entries es)
  plain_tree (fold m n r p) = tree.method (plain_tree r) (macro_name m) (more_trees (tree.name n) (more_trees (plain_tree p) no_trees))
  plain_tree (fold_map n r p t) =
      tree.method (plain_tree r) (macro_name Map)
      (more_trees (tree.name n) (more_trees (plain_tree p) (more_trees (plain_tree t) no_trees)))

  -- the source expressions of expanded ones
  pub plain_trees : Cores → Trees
  plain_trees no_cores = no_trees
  plain_trees (more_cores a more) = more_trees (plain_tree a) (plain_trees more)

  -- the source entries of expanded ones
  pub plain_entries : CoreEntries → TreeEntries
  plain_entries no_core_entries = no_entries
  plain_entries (more_core_entries k v more) = more_entries (plain_tree k) (plain_tree v) (plain_entries more)

-- a single argument
abbrev pub one_core : Core → Cores
one_core a = more_cores a no_cores

-- the field f of a, or the variable f if a is the name `variables`
abbrev pub selection : Bool → List ℕ → Core → Core
selection true f a = variable f
selection false f a = select a f

-- a call of n with one argument a: `has(inner.f)` if n is `has` and a selects the field f of inner, else a call
abbrev pub call_or_has : Bool → Option (List ℕ) → List ℕ → Core → Core → Core
call_or_has true (Some f) n inner a = has inner f
call_or_has _ _ n inner a = call (callee_named n) (one_core a)

-- a method n of a with the arguments x and p: the macro of that name over a, if
-- there is one and x is a name i; else a call
abbrev pub method_or_fold : Option Macro → Option (List ℕ) → List ℕ → Core → Core → Core → Core
method_or_fold (Some m) (Some i) n a x p = fold m i a p
method_or_fold _ _ n a x p = method a (callee_named n) (more_cores x (one_core p))

-- a method n of a with three arguments: `map` over a with predicate p and transform t, if
-- n is `map` and x is a name i; else a call
abbrev pub method_or_fold_map : Bool → Option (List ℕ) → List ℕ → Core → Core → Core → Core → Core
method_or_fold_map true (Some i) n a x p t = fold_map i a p t
method_or_fold_map _ _ n a x p t = method a (callee_named n) (more_cores x (more_cores p (one_core t)))

unfoldable mutual
  -- an expression with its macros expanded: `variables.f`, `has(e.f)`, and a macro over a range with the number of
  -- arguments that it takes, the first a name, become forms of their own; everything else is kept
  pub expanded : Tree → Core
  expanded (tree.literal l) = literal l
  expanded (tree.name n) = name n
  expanded (tree.select a f) = selection (is_variables a) f (expanded a)
  expanded (tree.index a k) = index (expanded a) (expanded k)
  expanded (tree.unary op a) = unary op (expanded a)
  expanded (tree.binary op a b) = binary op (expanded a) (expanded b)
  expanded (tree.ternary c a b) = ternary (expanded c) (expanded a) (expanded b)
  expanded (tree.list items) = list (expanded_trees items)
  expanded (tree.map es) = map (expanded_entries es)
  expanded (tree.call n no_trees) = call (callee_named n) no_cores
  expanded (tree.call n (more_trees a no_trees)) = call_or_has (is_has n) (field_name a) n (expanded_operand a) (expanded a)
  expanded (tree.call n (more_trees a (more_trees b more))) =
      call (callee_named n) (more_cores (expanded a) (more_cores (expanded b) (expanded_trees more)))
  expanded (tree.method a n no_trees) = method (expanded a) (callee_named n) no_cores
  expanded (tree.method a n (more_trees b no_trees)) = method (expanded a) (callee_named n) (one_core (expanded b))
  expanded (tree.method a n (more_trees x (more_trees p no_trees))) =
      method_or_fold (macro_named n) (name_of x) n (expanded a) (expanded x) (expanded p)
  expanded (tree.method a n (more_trees x (more_trees p (more_trees t no_trees)))) =
      method_or_fold_map (is_map n) (name_of x) n (expanded a) (expanded x) (expanded p) (expanded t)
  expanded (tree.method a n (more_trees x (more_trees p (more_trees t (more_trees u more))))) =
      method (expanded a) (callee_named n)
      (more_cores (expanded x) (more_cores (expanded p) (more_cores (expanded t) (more_cores (expanded u) (expanded_trees more)))))

  -- the expanded e of `e.f`; null for anything else, which is not used
  pub expanded_operand : Tree → Core
  expanded_operand (tree.select a f) = expanded a
  expanded_operand _ = literal tree.null

  -- each of the expressions, expanded
  pub expanded_trees : Trees → Cores
  expanded_trees no_trees = no_cores
  expanded_trees (more_trees a more) = more_cores (expanded a) (expanded_trees more)

  -- each key and each value, expanded
  pub expanded_entries : TreeEntries → CoreEntries
  expanded_entries no_entries = no_core_entries
  expanded_entries (more_entries k v more) = more_core_entries (expanded k) (expanded v) (expanded_entries more)
