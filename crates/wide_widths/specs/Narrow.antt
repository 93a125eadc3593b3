-- Which expressions have no list and no map that is wider than the documents, judged by their form.
use Rattle.std.specs.Prelude.{ℕ, suc, nat_le, Bool, true, false, ◌&&◌, ◌||◌, not}
use Rattle.std.specs.Prelude.{List, [], ◌∷◌, Option, Some, None, is_some}
use Rattle.cel_reader.specs.declared.operator.BinaryOperator.{BinaryOperator, TheVariants.Add}
use Rattle.cel_macros.specs.Environment.{lookup}
use Rattle.cel_macros.specs.Macros.{variables_name}
use Rattle.wide_reader.specs.Tree.{Wide, Wides, WideItems, WideEntries}
use Rattle.wide_reader.specs.Tree as wide
use Rattle.wide_reader.specs.declared.wide.Access.{Access, TheVariants.Plain}
use Rattle.wide_reader.specs.declared.wide.Macro.TheVariants as macro
use Rattle.wide_reader.specs.declared.wide.PairMacro.{TheVariants.TransformList}
use Rattle.wide_meaning.specs.Environment.{denotes_variables}
use Rattle.wide_meaning.specs.Functions.{function_named, method_named, qualified_named}
use Rattle.wide_meaning.specs.Meaning.{namespace_in}
use Rattle.wide_meaning.specs.declared.function.Function.{Function}
use Rattle.wide_meaning.specs.declared.function.Function.TheVariants as function
use Rattle.wide_meaning.specs.declared.function.Method.{Method}
use Rattle.wide_meaning.specs.declared.function.Method.TheVariants as method
use Rattle.wide_meaning.specs.declared.function.Qualified.{Qualified}
use Rattle.wide_meaning.specs.declared.function.Qualified.TheVariants as qualified

-- the greatest number of items or entries that a literal may have
abbrev pub literal_limit : ℕ
literal_limit = 16

-- which iteration names (innermost first) and which variables have values that are no wider than the documents
pub record NarrowNames : Type 0 where
  pub names : List (List ℕ × Bool)
  pub variables : List (List ℕ × Bool)

-- the names inside a macro that binds x
abbrev pub binding : List ℕ → Bool → NarrowNames → NarrowNames
binding x b s = record s { names = (x, b) ∷ s.names }

-- what is known of a name; all that has no binding is a root or the error
abbrev pub known : Option Bool → Bool
known (Some b) = b
known None = true

-- whether an iteration name hides `variables`
abbrev pub is_hidden : NarrowNames → Bool
is_hidden s = is_some (lookup variables_name s.names)

-- `variables.f`, or a field of an operand
abbrev pub selected : Bool → Access → Bool → Bool → Bool
selected true Plain variable operand = variable
selected _ o variable operand = operand

-- whether an operator's result is a sum
abbrev pub is_sum : BinaryOperator → Bool
is_sum Add = true
is_sum _ = false

-- a function with its operand
abbrev pub called : Option Function → List Bool → Bool
called (Some function.Dyn) (x ∷ []) = x
called (Some f) (x ∷ []) = true
called _ xs = false

-- a function with a namespace and its operands
abbrev pub qualified_called : Qualified → List Bool → Bool
qualified_called qualified.OptionalOf (x ∷ []) = x
qualified_called qualified.OptionalNone [] = true
qualified_called qualified.OptionalOfNonZeroValue (x ∷ []) = x
qualified_called qualified.SetsContains (x ∷ y ∷ []) = true
qualified_called qualified.SetsIntersects (x ∷ y ∷ []) = true
qualified_called qualified.SetsEquivalent (x ∷ y ∷ []) = true
qualified_called _ xs = false

-- a method with its operands
abbrev pub method_called : Method → Bool → List Bool → Bool
method_called method.Size x [] = true
method_called method.StartsWith x (y ∷ []) = true
method_called method.EndsWith x (y ∷ []) = true
method_called method.Contains x (y ∷ []) = true
method_called method.HasValue x [] = true
method_called method.Value x [] = x
method_called method.OrValue x (y ∷ []) = x && y
method_called method.Or x (y ∷ []) = x && y
method_called method.First x [] = x
method_called method.Last x [] = x
method_called method.Min x [] = x
method_called method.Max x [] = x
method_called method.IsSorted x [] = true
method_called method.Distinct x [] = x
method_called method.Reverse x [] = x
method_called method.Slice x (y ∷ z ∷ []) = x
method_called _ x ys = false

abbrev pub on_operand : Option Qualified → Option Method → Bool → List Bool → Bool
on_operand (Some q) m x ys = qualified_called q ys
on_operand None (Some m) x ys = method_called m x ys
on_operand None None x ys = false

-- the number of parts of a literal
abbrev pub items_count : WideItems → ℕ
items_count wide.no_items = 0
items_count (wide.more_items o a more) = suc (items_count more)

abbrev pub entries_count : WideEntries → ℕ
entries_count wide.no_entries = 0
entries_count (wide.more_entries o k v more) = suc (entries_count more)

-- whether an expression is no list because of a literal in it
unfoldable pub is_scalar : Wide → Bool
is_scalar (wide.literal l) = true
is_scalar (wide.uint n) = true
is_scalar (wide.binary op a b) = is_sum op && (is_scalar a || is_scalar b)
is_scalar _ = false

unfoldable mutual
  -- whether the value of an expression, and all in it, is no wider than the documents or a literal may be
  pub is_narrow : NarrowNames → Wide → Bool
  is_narrow s (wide.literal l) = true
  is_narrow s (wide.uint n) = true
  is_narrow s (wide.name n) = known (lookup n s.names)
  is_narrow s (wide.root n) = true
  is_narrow s (wide.select a o f) = selected (denotes_variables a (is_hidden s)) o (known (lookup f s.variables)) (is_narrow s a)
  is_narrow s (wide.index a o k) = is_narrow s a
  is_narrow s (wide.has a f) = true
  is_narrow s (wide.unary op a) = true
  is_narrow s (wide.binary op a b) = not (is_sum op) || (is_scalar a || is_scalar b)
  is_narrow s (wide.ternary c a b) = is_narrow s a && is_narrow s b
  is_narrow s (wide.list items) = nat_le (items_count items) literal_limit && are_items_narrow s items
  is_narrow s (wide.map es) = nat_le (entries_count es) literal_limit && are_entries_narrow s es
  is_narrow s (wide.fold macro.Filter r x p) = is_narrow s r
  is_narrow s (wide.fold macro.Map r x p) = is_narrow s r && is_narrow (binding x (is_narrow s r) s) p
  is_narrow s (wide.fold m r x p) = true
  is_narrow s (wide.filter_map r x p t) = is_narrow s r && is_narrow (binding x (is_narrow s r) s) t
  is_narrow s (wide.pair_fold TransformList r k v p) =
      is_narrow s r && is_narrow (binding v (is_narrow s r) (binding k true s)) p
  is_narrow s (wide.pair_fold m r k v p) = true
  is_narrow s (wide.pair_filter_map r k v p t) = is_narrow s r && is_narrow (binding v (is_narrow s r) (binding k true s)) t
  is_narrow s (wide.optional_fold m a x t) = is_narrow (binding x (is_narrow s a) s) t
  is_narrow s (wide.call n es) = called (function_named n) (are_narrow s es)
  is_narrow s (wide.method a n es) =
      on_operand (qualified_named (namespace_in a) n) (method_named n) (is_narrow s a) (are_narrow s es)

  -- whether each of the expressions is
  pub are_narrow : NarrowNames → Wides → List Bool
  are_narrow s wide.no_wides = []
  are_narrow s (wide.more_wides a more) = is_narrow s a ∷ are_narrow s more

  -- whether all items of a list literal are
  pub are_items_narrow : NarrowNames → WideItems → Bool
  are_items_narrow s wide.no_items = true
  are_items_narrow s (wide.more_items o a more) = is_narrow s a && are_items_narrow s more

  -- whether all values of a map literal are
  pub are_entries_narrow : NarrowNames → WideEntries → Bool
  are_entries_narrow s wide.no_entries = true
  are_entries_narrow s (wide.more_entries o k v more) = is_narrow s v && are_entries_narrow s more
