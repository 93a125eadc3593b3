-- Which expressions have a reach, judged by their form.
use Rattle.std.specs.Prelude.{ℕ, Bool, true, false, ◌&&◌, List, [], ◌∷◌, Option, Some, None, is_some}
use Rattle.cel_reader.specs.declared.operator.BinaryOperator.{BinaryOperator}
use Rattle.cel_reader.specs.declared.operator.BinaryOperator.TheVariants as binary
use Rattle.cel_reader.specs.declared.operator.UnaryOperator.{UnaryOperator, TheVariants.Not, TheVariants.Negate}
use Rattle.cel_macros.specs.Environment.{lookup}
use Rattle.cel_macros.specs.Macros.{variables_name}
use Rattle.wide_reader.specs.Tree.{Wide, Wides, WideItems}
use Rattle.wide_reader.specs.Tree as wide
use Rattle.wide_reader.specs.declared.wide.Access.{Access, TheVariants.Plain}
use Rattle.wide_reader.specs.declared.wide.Macro.{Macro}
use Rattle.wide_reader.specs.declared.wide.Macro.TheVariants as macro
use Rattle.wide_reader.specs.declared.wide.PairMacro.{PairMacro, TheVariants.TransformList}
use Rattle.wide_meaning.specs.Environment.{denotes_variables}
use Rattle.wide_meaning.specs.Functions.{function_named, method_named, qualified_named}
use Rattle.wide_meaning.specs.Meaning.{namespace_in}
use Rattle.wide_meaning.specs.declared.function.Function.{Function}
use Rattle.wide_meaning.specs.declared.function.Function.TheVariants as function
use Rattle.wide_meaning.specs.declared.function.Method.{Method}
use Rattle.wide_meaning.specs.declared.function.Method.TheVariants as method
use Rattle.wide_meaning.specs.declared.function.Qualified.{Qualified}
use Rattle.wide_meaning.specs.declared.function.Qualified.TheVariants as qualified

-- which iteration names (innermost first) and which variables have a reach
pub record KnownNames : Type 0 where
  pub names : List (List ℕ × Bool)
  pub variables : List (List ℕ × Bool)

-- outside of macros, with these variables
abbrev pub outside : List (List ℕ × Bool) → KnownNames
outside variables = record { names = []; variables = variables }

-- the names inside a macro that binds x
abbrev pub binding : List ℕ → Bool → KnownNames → KnownNames
binding x b s = record s { names = (x, b) ∷ s.names }

-- whether a name has a reach; one that has no binding is a root or the error
abbrev pub known : Option Bool → Bool
known (Some b) = b
known None = true

-- whether an iteration name hides `variables`
abbrev pub is_hidden : KnownNames → Bool
is_hidden s = is_some (lookup variables_name s.names)

-- `variables.f`, or a field of an operand
abbrev pub selected : Bool → Access → Bool → Bool → Bool
selected true Plain variable operand = variable
selected _ o variable operand = operand

-- an operator with its operands: of arithmetic, sums alone
abbrev pub unary_known : UnaryOperator → Bool
unary_known Not = true
unary_known Negate = false

abbrev pub binary_known : BinaryOperator → Bool → Bool → Bool
binary_known binary.Add a b = a && b
binary_known binary.Subtract a b = false
binary_known binary.Multiply a b = false
binary_known binary.Divide a b = false
binary_known binary.Remainder a b = false
binary_known op a b = true

-- a macro with its range and its predicate or transform
abbrev pub fold_known : Macro → Bool → Bool → Bool
fold_known macro.Filter range part = range
fold_known macro.Map range part = part
fold_known m range part = true

abbrev pub pair_fold_known : PairMacro → Bool → Bool
pair_fold_known TransformList part = part
pair_fold_known m part = true

-- a function with its operand
abbrev pub called : Option Function → Bool → Bool
called (Some function.String) x = x
called (Some function.Dyn) x = x
called (Some function.Bool) x = true
called _ x = false

-- a method without arguments
abbrev pub method_alone : Method → Bool → Bool
method_alone method.HasValue x = true
method_alone method.IsSorted x = true
method_alone method.Value x = x
method_alone method.First x = x
method_alone method.Last x = x
method_alone method.Min x = x
method_alone method.Max x = x
method_alone method.Distinct x = x
method_alone method.Reverse x = x
method_alone _ x = false

-- a method with one argument
abbrev pub method_with_one : Method → Bool → Bool → Bool
method_with_one method.StartsWith x y = true
method_with_one method.EndsWith x y = true
method_with_one method.Contains x y = true
method_with_one method.OrValue x y = x && y
method_with_one method.Or x y = x && y
method_with_one _ x y = false

-- a method with two arguments
abbrev pub method_with_two : Method → Bool → Bool
method_with_two method.Slice x = x
method_with_two _ x = false

-- a function with a namespace: without arguments, with one, and with two
abbrev pub qualified_alone : Qualified → Bool
qualified_alone qualified.OptionalNone = true
qualified_alone _ = false

abbrev pub qualified_with_one : Qualified → Bool → Bool
qualified_with_one qualified.OptionalOf x = x
qualified_with_one qualified.OptionalOfNonZeroValue x = x
qualified_with_one _ x = false

abbrev pub qualified_with_two : Qualified → Bool
qualified_with_two qualified.SetsContains = true
qualified_with_two qualified.SetsIntersects = true
qualified_with_two qualified.SetsEquivalent = true
qualified_with_two _ = false

-- a call of a function with a namespace or of a method x: without arguments, with one, and with two
abbrev pub called_alone : Option Qualified → Option Method → Bool → Bool
called_alone (Some q) m x = qualified_alone q
called_alone None (Some m) x = method_alone m x
called_alone None None x = false

abbrev pub called_with_one : Option Qualified → Option Method → Bool → Bool → Bool
called_with_one (Some q) m x y = qualified_with_one q y
called_with_one None (Some m) x y = method_with_one m x y
called_with_one None None x y = false

abbrev pub called_with_two : Option Qualified → Option Method → Bool → Bool
called_with_two (Some q) m x = qualified_with_two q
called_with_two None (Some m) x = method_with_two m x
called_with_two None None x = false

-- calls with any number of arguments
abbrev pub called_with : Option Function → List Bool → Bool
called_with f (x ∷ []) = called f x
called_with f xs = false

abbrev pub on_operand : Option Qualified → Option Method → Bool → List Bool → Bool
on_operand q m x [] = called_alone q m x
on_operand q m x (y ∷ []) = called_with_one q m x y
on_operand q m x (y ∷ z ∷ []) = called_with_two q m x
on_operand q m x ys = false

unfoldable mutual
  -- whether an expression has a reach
  pub has_reach : KnownNames → Wide → Bool
  has_reach s (wide.literal l) = true
  has_reach s (wide.uint n) = true
  has_reach s (wide.name n) = known (lookup n s.names)
  has_reach s (wide.root n) = true
  has_reach s (wide.select a o f) = selected (denotes_variables a (is_hidden s)) o (known (lookup f s.variables)) (has_reach s a)
  has_reach s (wide.index a o k) = has_reach s a
  has_reach s (wide.has a f) = true
  has_reach s (wide.unary op a) = unary_known op
  has_reach s (wide.binary op a b) = binary_known op (has_reach s a) (has_reach s b)
  has_reach s (wide.ternary c a b) = has_reach s a && has_reach s b
  has_reach s (wide.list items) = items_have_reach s items
  has_reach s (wide.map es) = false
  has_reach s (wide.fold m r x p) = fold_known m (has_reach s r) (has_reach (binding x (has_reach s r) s) p)
  has_reach s (wide.filter_map r x p t) = has_reach (binding x (has_reach s r) s) t
  has_reach s (wide.pair_fold m r k v p) = pair_fold_known m (has_reach (binding v (has_reach s r) (binding k false s)) p)
  has_reach s (wide.pair_filter_map r k v p t) = has_reach (binding v (has_reach s r) (binding k false s)) t
  has_reach s (wide.optional_fold m a x t) = has_reach (binding x (has_reach s a) s) t
  has_reach s (wide.call n es) = called_with (function_named n) (have_reach s es)
  has_reach s (wide.method a n es) = on_operand (qualified_named (namespace_in a) n) (method_named n) (has_reach s a) (have_reach s es)

  -- whether each of the expressions has one
  pub have_reach : KnownNames → Wides → List Bool
  have_reach s wide.no_wides = []
  have_reach s (wide.more_wides a more) = has_reach s a ∷ have_reach s more

  -- whether all items of a list literal have one
  pub items_have_reach : KnownNames → WideItems → Bool
  items_have_reach s wide.no_items = true
  items_have_reach s (wide.more_items o a more) = has_reach s a && items_have_reach s more
