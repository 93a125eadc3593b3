-- The meaning of an expanded expression: that of `meaning`, with macros as left folds over the items.
use Rattle.std.specs.Prelude.{ℤ, pos, ◌+ℤ◌, Bool, true, false, List, [], ◌∷◌, Option, Some, None}
use Rattle.std.specs.Prelude.{fold as fold_left}
use Rattle.value_store.specs.Value.{Value, ValueOrError, error, value, boolean, int, list, Items, no_items, items_push}
use Rattle.cel_macros.specs.Environment.{Environment, bind, name_value, variable_value}
use Rattle.cel_macros.specs.Logic.{Truth, Yes, No, Other, truth, and_of, or_of, ternary_of}
use Rattle.cel_macros.specs.Arithmetic.{int_part}
use Rattle.cel_macros.specs.Comparison.{equal_of}
use Rattle.cel_macros.specs.Selection.{field_of, has_of, index_of}
use Rattle.cel_macros.specs.Literals.{literal_of, list_literal, map_literal}
use Rattle.cel_macros.specs.Callee.{function_in, test_in}
use Rattle.cel_macros.specs.Functions.{function_of, method_of, text_test_of}
use Rattle.cel_macros.specs.declared.macros.Macro.{Macro, TheVariants.All, TheVariants.Exists, TheVariants.ExistsOne, TheVariants.Filter, TheVariants.Map}
use Rattle.cel_macros.specs.Macros.{is_yes, is_no, range_of}
use Rattle.cel_macros.specs.Meaning.{unary_of, binary_of}
use Rattle.cel_macros.specs.CoreTree.{Core, literal, name, variable, select, has, index, call, method, unary, binary, ternary, map}
use Rattle.cel_macros.specs.CoreTree.{fold, fold_map, Cores, no_cores, more_cores, CoreEntries, no_core_entries, more_core_entries}
use Rattle.cel_macros.specs.CoreTree as core

-- the items, if the result is a list
abbrev pub items_part : ValueOrError → Option Items
items_part (value (list is)) = Some is
items_part _ = None

-- the list with the value appended; the error if either is missing
abbrev pub push_parts : Option Items → ValueOrError → ValueOrError
push_parts (Some is) (value v) = value (list (items_push is v))
push_parts _ _ = error

-- the list with one more item; the error if either is the error
abbrev pub pushed : ValueOrError → ValueOrError → ValueOrError
pushed acc x = push_parts (items_part acc) x

-- the count plus one; the error if there is no count
abbrev pub one_more : Option ℤ → ValueOrError
one_more (Some z) = value (int (z +ℤ pos 1))
one_more None = error

-- the next result if the predicate is true, the result so far if it is false, else the error
abbrev pub when_true : Truth → ValueOrError → ValueOrError → ValueOrError
when_true Yes next acc = next
when_true No next acc = acc
when_true Other next acc = error

-- the result before the first item
abbrev pub start_of : Macro → ValueOrError
start_of All = value (boolean true)
start_of Exists = value (boolean false)
start_of ExistsOne = value (int (pos 0))
start_of Filter = value (list no_items)
start_of Map = value (list no_items)

-- the result after one more item v, for which the predicate or transform gives f v
abbrev pub step_of : Macro → (Value → ValueOrError) → ValueOrError → Value → ValueOrError
step_of All f acc v = and_of acc (f v)
step_of Exists f acc v = or_of acc (f v)
step_of ExistsOne f acc v = when_true (truth (f v)) (one_more (int_part acc)) acc
step_of Filter f acc v = when_true (truth (f v)) (pushed acc (value v)) acc
step_of Map f acc v = pushed acc (f v)

-- the final result of a macro: `exists_one` counts, and compares with one at the end
abbrev pub end_of : Macro → ValueOrError → ValueOrError
end_of All acc = acc
end_of Exists acc = acc
end_of ExistsOne acc = equal_of acc (value (int (pos 1)))
end_of Filter acc = acc
end_of Map acc = acc

-- whether the result is the error
abbrev pub is_error : ValueOrError → Bool
is_error error = true
is_error (value v) = false

-- whether no further item changes the result: false of `all`, true of `exists`, and the error for the others
abbrev pub is_settled : Macro → ValueOrError → Bool
is_settled All acc = is_no (truth acc)
is_settled Exists acc = is_yes (truth acc)
is_settled ExistsOne acc = is_error acc
is_settled Filter acc = is_error acc
is_settled Map acc = is_error acc

-- a macro over a range from the left, with f as predicate or transform; the error if there is no range
abbrev pub folded : Macro → (Value → ValueOrError) → Option (List Value) → ValueOrError
folded m f (Some items) = end_of m (fold_left (step_of m f) (start_of m) items)
folded m f None = error

-- the result of `map` after one more item, with predicate p and transform f
abbrev pub map_step : (Value → Truth) → (Value → ValueOrError) → ValueOrError → Value → ValueOrError
map_step p f acc v = when_true (p v) (pushed acc (f v)) acc

-- `map` with a predicate over a range from the left; the error if there is no range
abbrev pub folded_map : (Value → Truth) → (Value → ValueOrError) → Option (List Value) → ValueOrError
folded_map p f (Some items) = fold_left (map_step p f) (value (list no_items)) items
folded_map p f None = error

unfoldable mutual
  -- the meaning of an expanded expression in an environment: a value or the error
  pub fold_meaning : Core → Environment → ValueOrError
  fold_meaning (literal l) env = literal_of l
  fold_meaning (name n) env = name_value n env
  fold_meaning (variable v) env = variable_value v env.variables
  fold_meaning (select a f) env = field_of (fold_meaning a env) f
  fold_meaning (has a f) env = has_of (fold_meaning a env) f
  fold_meaning (index a k) env = index_of (fold_meaning a env) (fold_meaning k env)
  fold_meaning (unary op a) env = unary_of op (fold_meaning a env)
  fold_meaning (binary op a b) env = binary_of op (fold_meaning a env) (fold_meaning b env)
  fold_meaning (ternary c a b) env = ternary_of (fold_meaning c env) (fold_meaning a env) (fold_meaning b env)
  fold_meaning (core.list items) env = list_literal (fold_meanings items env)
  fold_meaning (map es) env = map_literal (fold_entries es env)
  fold_meaning (call c (more_cores a no_cores)) env = function_of (function_in c) (fold_meaning a env)
  fold_meaning (call c _) env = error
  fold_meaning (method a c no_cores) env = method_of (function_in c) (fold_meaning a env)
  fold_meaning (method a c (more_cores b no_cores)) env = text_test_of (test_in c) (fold_meaning a env) (fold_meaning b env)
  fold_meaning (method a c _) env = error
  fold_meaning (fold m n r p) env = folded m (λ v. fold_meaning p (bind n v env)) (range_of (fold_meaning r env))
  fold_meaning (fold_map n r p t) env =
      folded_map (λ v. truth (fold_meaning p (bind n v env))) (λ v. fold_meaning t (bind n v env)) (range_of (fold_meaning r env))

  -- the meaning of each of the expressions
  pub fold_meanings : Cores → Environment → List ValueOrError
  fold_meanings no_cores env = []
  fold_meanings (more_cores a more) env = fold_meaning a env ∷ fold_meanings more env

  -- the meaning of each key and each value
  pub fold_entries : CoreEntries → Environment → List (ValueOrError × ValueOrError)
  fold_entries no_core_entries env = []
  fold_entries (more_core_entries k v more) env = (fold_meaning k env, fold_meaning v env) ∷ fold_entries more env
