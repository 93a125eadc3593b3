-- The meaning of an expression in an environment: a value or the error, by cases on its tree (cel-spec, Evaluation).
use Rattle.std.specs.Prelude.{ℕ, Bool, true, false, List, [], ◌∷◌, Option, Some}
use Rattle.cel_reader.specs.Tree as tree
use Rattle.cel_reader.specs.Tree.{Tree, Trees, TreeEntries, no_trees, more_trees, no_entries, more_entries}
use Rattle.cel_reader.specs.declared.operator.BinaryOperator.{BinaryOperator}
use Rattle.cel_reader.specs.declared.operator.BinaryOperator.TheVariants as binary
use Rattle.cel_reader.specs.declared.operator.UnaryOperator.{UnaryOperator}
use Rattle.cel_reader.specs.declared.operator.UnaryOperator.TheVariants as unary
use Rattle.value_store.specs.Value.{ValueOrError, error}
use Rattle.cel_macros.specs.Environment.{Environment, bind, name_value, variable_value}
use Rattle.cel_macros.specs.Logic.{and_of, or_of, not_of, ternary_of}
use Rattle.cel_macros.specs.Arithmetic.{sum_of, difference_of, product_of, quotient_of, remainder_of, negation_of}
use Rattle.cel_macros.specs.Comparison.{equal_of, unequal_of, less_of, less_equal_of, greater_of, greater_equal_of, member_of}
use Rattle.cel_macros.specs.Selection.{field_of, has_of, index_of}
use Rattle.cel_macros.specs.Literals.{literal_of, list_literal, map_literal}
use Rattle.cel_macros.specs.Functions.{function_named, function_of, method_of, test_named, text_test_of}
use Rattle.cel_macros.specs.declared.function.Function.{Function}
use Rattle.cel_macros.specs.Macros.{macro_named, is_map, is_has, is_variables, name_of, field_name, range_of, over_range, map_over_range}

-- the result of a unary operator
abbrev pub unary_of : UnaryOperator → ValueOrError → ValueOrError
unary_of unary.Not x = not_of x
unary_of unary.Negate x = negation_of x

-- the result of a binary operator
abbrev pub binary_of : BinaryOperator → ValueOrError → ValueOrError → ValueOrError
binary_of binary.Or x y = or_of x y
binary_of binary.And x y = and_of x y
binary_of binary.Less x y = less_of x y
binary_of binary.LessEqual x y = less_equal_of x y
binary_of binary.GreaterEqual x y = greater_equal_of x y
binary_of binary.Greater x y = greater_of x y
binary_of binary.Equal x y = equal_of x y
binary_of binary.NotEqual x y = unequal_of x y
binary_of binary.In x y = member_of x y
binary_of binary.Add x y = sum_of x y
binary_of binary.Subtract x y = difference_of x y
binary_of binary.Multiply x y = product_of x y
binary_of binary.Divide x y = quotient_of x y
binary_of binary.Remainder x y = remainder_of x y

-- `variables.f`, or the field f of the operand x
abbrev pub selected : Bool → List ℕ → ValueOrError → Environment → ValueOrError
selected true f x env = variable_value f env.variables
selected false f x env = field_of x f

-- `has(e.f)`, where x is the meaning of e, or a function of y
abbrev pub called : Bool → Option (List ℕ) → Option Function → ValueOrError → ValueOrError → ValueOrError
called true (Some f) g x y = has_of x f
called _ _ g x y = function_of g y

unfoldable mutual
  -- the meaning of an expression in an environment: a value or the error
  pub meaning : Tree → Environment → ValueOrError
  meaning (tree.literal l) env = literal_of l
  meaning (tree.name n) env = name_value n env
  meaning (tree.select a f) env = selected (is_variables a) f (meaning a env) env
  meaning (tree.index a k) env = index_of (meaning a env) (meaning k env)
  meaning (tree.unary op a) env = unary_of op (meaning a env)
  meaning (tree.binary op a b) env = binary_of op (meaning a env) (meaning b env)
  meaning (tree.ternary c a b) env = ternary_of (meaning c env) (meaning a env) (meaning b env)
  meaning (tree.list items) env = list_literal (meanings items env)
  meaning (tree.map entries) env = map_literal (entry_meanings entries env)
  meaning (tree.call n (more_trees a no_trees)) env =
      called (is_has n) (field_name a) (function_named n) (operand_meaning a env) (meaning a env)
  meaning (tree.call n _) env = error
  meaning (tree.method a n no_trees) env = method_of (function_named n) (meaning a env)
  meaning (tree.method a n (more_trees b no_trees)) env = text_test_of (test_named n) (meaning a env) (meaning b env)
  meaning (tree.method a n (more_trees x (more_trees p no_trees))) env =
      over_range (macro_named n) (name_of x) (λ i v. meaning p (bind i v env)) (range_of (meaning a env))
  meaning (tree.method a n (more_trees x (more_trees p (more_trees t no_trees)))) env =
      map_over_range (is_map n) (name_of x) (λ i v. meaning p (bind i v env)) (λ i v. meaning t (bind i v env)) (range_of (meaning a env))
  meaning (tree.method a n _) env = error

  -- the meaning of e in `e.f`; the error for anything else, which is not used
  pub operand_meaning : Tree → Environment → ValueOrError
  operand_meaning (tree.select a f) env = meaning a env
  operand_meaning _ env = error

  -- the meaning of each of the expressions
  pub meanings : Trees → Environment → List ValueOrError
  meanings no_trees env = []
  meanings (more_trees a more) env = meaning a env ∷ meanings more env

  -- the meaning of each key and each value
  pub entry_meanings : TreeEntries → Environment → List (ValueOrError × ValueOrError)
  entry_meanings no_entries env = []
  entry_meanings (more_entries k v more) env = (meaning k env, meaning v env) ∷ entry_meanings more env
