-- The reach of an expression: the values that it can have on given documents, by cases on its tree.
use Rattle.std.specs.Prelude.{ℕ, pos, Bool, true, false, List, [], ◌∷◌, ◌++◌, Option, Some, None, is_some, unwrap_or}
use Rattle.std.specs.Prelude.{option_to_list, flat_map}
use Rattle.cel_reader.specs.Tree as tree
use Rattle.cel_reader.specs.declared.operator.BinaryOperator.{BinaryOperator, TheVariants.Add}
use Rattle.value_store.specs.Value.{Value, ValueOrError, error, value, boolean, int, list, items_of}
use Rattle.cel_macros.specs.Arithmetic.{sum_of}
use Rattle.cel_macros.specs.Environment.{Roots, lookup, root_bindings}
use Rattle.cel_macros.specs.Literals.{literal_of}
use Rattle.cel_macros.specs.Macros.{variables_name}
use Rattle.wide_reader.specs.Tree.{Wide, WideItems}
use Rattle.wide_reader.specs.Tree as wide
use Rattle.wide_reader.specs.declared.wide.Access.{Access, TheVariants.Plain}
use Rattle.wide_reader.specs.declared.wide.Macro.{Macro}
use Rattle.wide_reader.specs.declared.wide.Macro.TheVariants as macro
use Rattle.wide_reader.specs.declared.wide.PairMacro.{PairMacro, TheVariants.TransformList}
use Rattle.wide_meaning.specs.Environment.{denotes_variables}
use Rattle.wide_meaning.specs.Functions.{function_named, method_named, qualified_named, text_of}
use Rattle.wide_meaning.specs.Meaning.{namespace_in}
use Rattle.wide_meaning.specs.declared.function.Function.{Function}
use Rattle.wide_meaning.specs.declared.function.Function.TheVariants as function
use Rattle.wide_meaning.specs.declared.function.Method.{Method}
use Rattle.wide_meaning.specs.declared.function.Method.TheVariants as method
use Rattle.wide_meaning.specs.declared.function.Qualified.{Qualified}
use Rattle.wide_reach.specs.Parts.{items, fields, indexed, ranged}

-- the values that each iteration name in scope can have (innermost first), and each variable
pub record Ranges : Type 0 where
  pub names : List (List ℕ × List Value)
  pub variables : List (List ℕ × List Value)

-- outside of macros, with these variables
abbrev pub ranges_outside : List (List ℕ × List Value) → Ranges
ranges_outside variables = record { names = []; variables = variables }

-- the ranges inside a macro that binds x
abbrev pub ranging : List ℕ → List Value → Ranges → Ranges
ranging x vs r = record r { names = (x, vs) ∷ r.names }

-- the two bools
abbrev pub booleans : List Value
booleans = boolean false ∷ boolean true ∷ []

-- a result that may be the error
abbrev pub valued : ValueOrError → List Value
valued error = []
valued (value v) = v ∷ []

-- one list with these items, for all lists of some of them
abbrev pub one_list : List Value → List Value
one_list vs = list (items_of vs) ∷ []

-- the document of a root
abbrev pub root_reach : List ℕ → Roots → List Value
root_reach n roots = option_to_list (lookup n (root_bindings roots))

-- `variables.f`, or the field f of an operand
abbrev pub select_reach : Bool → Access → List Value → List Value → List Value
select_reach true Plain variable field = variable
select_reach _ o variable field = field

-- an index: the field, if it is a text literal; else all items and values
abbrev pub index_reach : Wide → List Value → List Value
index_reach (wide.literal (tree.text f)) vs = fields f vs
index_reach _ vs = indexed vs

-- the sums of each of vs and each of ws
abbrev pub sum_with : Value → Value → List Value
sum_with v w = valued (sum_of (value v) (value w))

abbrev pub sums : List Value → List Value → List Value
sums vs ws = flat_map (λ v. flat_map (sum_with v) ws) vs

-- a binary operator: sums in pairs, with one list for the concatenation of any two lists
abbrev pub binary_reach : BinaryOperator → List Value → List Value → List Value
binary_reach Add vs ws = sums vs ws ++ one_list (items vs ++ items ws)
binary_reach op vs ws = booleans

-- a macro: its range, and the reach of its part
abbrev pub fold_reach : Macro → List Value → List Value → List Value
fold_reach macro.Filter range part = one_list range
fold_reach macro.Map range part = one_list part
fold_reach m range part = booleans

abbrev pub pair_fold_reach : PairMacro → List Value → List Value
pair_fold_reach TransformList part = one_list part
pair_fold_reach m part = booleans

-- the text of a value, if it has one
abbrev pub text_in : Value → List Value
text_in v = valued (text_of (value v))

-- a function of an operand
abbrev pub call_reach : Option Function → List Value → List Value
call_reach (Some function.String) vs = flat_map text_in vs
call_reach (Some function.Dyn) vs = vs
call_reach _ vs = booleans

-- a method without arguments
abbrev pub method_reach : Method → List Value → List Value
method_reach method.HasValue vs = booleans
method_reach method.IsSorted vs = booleans
method_reach method.First vs = items vs
method_reach method.Last vs = items vs
method_reach method.Min vs = items vs
method_reach method.Max vs = items vs
method_reach _ vs = vs

-- a method with one argument
abbrev pub method_reach_with_one : Method → List Value → List Value → List Value
method_reach_with_one method.OrValue vs ws = vs ++ ws
method_reach_with_one method.Or vs ws = vs ++ ws
method_reach_with_one _ vs ws = booleans

-- a call of a function with a namespace or of a method, by the number of its arguments
abbrev pub reach_alone : Option Qualified → Option Method → List Value → List Value
reach_alone None (Some m) vs = method_reach m vs
reach_alone _ m vs = []

abbrev pub reach_with_one : Option Qualified → Option Method → List Value → List Value → List Value
reach_with_one (Some q) m vs ws = ws
reach_with_one None (Some m) vs ws = method_reach_with_one m vs ws
reach_with_one None None vs ws = []

abbrev pub reach_with_two : Option Qualified → List Value → List Value
reach_with_two (Some q) vs = booleans
reach_with_two None vs = vs

unfoldable mutual
  -- the values that an expression can have on these documents, if it has a reach
  pub reach : Roots → Ranges → Wide → List Value
  reach roots r (wide.literal l) = valued (literal_of l)
  reach roots r (wide.uint n) = int (pos n) ∷ []
  reach roots r (wide.name n) = unwrap_or (lookup n r.names) (root_reach n roots)
  reach roots r (wide.root n) = root_reach n roots
  reach roots r (wide.select a o f) =
      select_reach (denotes_variables a (is_some (lookup variables_name r.names))) o (unwrap_or (lookup f r.variables) [])
      (fields f (reach roots r a))
  reach roots r (wide.index a o k) = index_reach k (reach roots r a)
  reach roots r (wide.has a f) = booleans
  reach roots r (wide.unary op a) = booleans
  reach roots r (wide.binary op a b) = binary_reach op (reach roots r a) (reach roots r b)
  reach roots r (wide.ternary c a b) = reach roots r a ++ reach roots r b
  reach roots r (wide.list items) = one_list (items_reach roots r items)
  reach roots r (wide.map es) = []
  reach roots r (wide.fold m a x p) =
      fold_reach m (ranged (reach roots r a)) (reach roots (ranging x (ranged (reach roots r a)) r) p)
  reach roots r (wide.filter_map a x p t) = one_list (reach roots (ranging x (ranged (reach roots r a)) r) t)
  reach roots r (wide.pair_fold m a k v p) =
      pair_fold_reach m (reach roots (ranging v (indexed (reach roots r a)) (ranging k [] r)) p)
  reach roots r (wide.pair_filter_map a k v p t) = one_list (reach roots (ranging v (indexed (reach roots r a)) (ranging k [] r)) t)
  reach roots r (wide.optional_fold m a x t) = reach roots (ranging x (reach roots r a) r) t
  reach roots r (wide.call n (wide.more_wides a wide.no_wides)) = call_reach (function_named n) (reach roots r a)
  reach roots r (wide.call n _) = []
  reach roots r (wide.method a n wide.no_wides) =
      reach_alone (qualified_named (namespace_in a) n) (method_named n) (reach roots r a)
  reach roots r (wide.method a n (wide.more_wides b wide.no_wides)) =
      reach_with_one (qualified_named (namespace_in a) n) (method_named n) (reach roots r a) (reach roots r b)
  reach roots r (wide.method a n (wide.more_wides b (wide.more_wides c wide.no_wides))) =
      reach_with_two (qualified_named (namespace_in a) n) (reach roots r a)
  reach roots r (wide.method a n _) = []

  -- the values that the items of a list literal can have
  pub items_reach : Roots → Ranges → WideItems → List Value
  items_reach roots r wide.no_items = []
  items_reach roots r (wide.more_items o a more) = reach roots r a ++ items_reach roots r more
