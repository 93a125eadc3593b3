-- Calls of functions and methods within a width.
use Rattle.std.proofs.Common.{◌≡◌, ◌≤◌, ◌∷◌, [], ℕ, pos, Bool, true, List, Option, Some, None}
use native.Mathlib.Omega.{arith}
use Rattle.value_store.specs.Value.{Value, ValueOrError, error, value, null, boolean, int, text, list, map, Items, no_items, item, list_of}
use Rattle.value_widths.specs.Width.{width_of, result_width}
use Rattle.cel_macros.specs.Arithmetic.{difference_of}
use Rattle.cel_macros.specs.Comparison.{less_equal_of, greater_equal_of}
use Rattle.cel_macros.specs.Functions.{size_of}
use Rattle.cel_macros.specs.Literals.{list_or_error}
use Rattle.cel_macros.specs.Logic.{truth}
use Rattle.cel_macros.specs.Macros.{macro_of}
use Rattle.cel_macros.specs.Selection.{index_of}
use Rattle.cel_macros.specs.declared.macros.Macro.{TheVariants.All, TheVariants.Filter}
use Rattle.cel_macros.specs.declared.text_test.TextTest.TheVariants as test
use Rattle.wide_meaning.specs.Functions.{first_item, last_item, item_of, extreme_of, method_in, qualified_in}
use Rattle.wide_meaning.specs.ListMethods.{of_items, is_sorted, distinct, reversed}
use Rattle.wide_meaning.specs.Meaning.{called as function_called, method_called as operand_called}
use Rattle.wide_meaning.specs.Outcome.{Outcome, plain_part, outcome_of}
use Rattle.wide_meaning.specs.declared.function.Function.{Function}
use Rattle.wide_meaning.specs.declared.function.Function.TheVariants as function
use Rattle.wide_meaning.specs.declared.function.Method.{Method}
use Rattle.wide_meaning.specs.declared.function.Method.TheVariants as method
use Rattle.wide_meaning.specs.declared.function.Qualified.{Qualified}
use Rattle.wide_meaning.specs.declared.function.Qualified.TheVariants as qualified
use Rattle.wide_widths.specs.Law.{IsOutcomeWithin}
use Rattle.wide_widths.specs.Narrow.{called, qualified_called, method_called, on_operand}
use Rattle.wide_widths.proofs.ListMethods.{of_items_within, sorted_flat, distinct_within, reversed_within, slice_within}
use Rattle.wide_widths.proofs.Lists.{range_within, list_within, where_within}
use Rattle.wide_widths.proofs.Results.{flat_within, size_flat, text_flat, bool_flat, sets_flat, test_of_flat}
use Rattle.wide_widths.proofs.Values.{outcome_within, plain_within, some_within, present_within, index_of_within}
use Rattle.wide_widths.proofs.Within.{and_left, and_right, either_within, first_within, inner_within, some_nonzero_within}

module _ (n : ℕ) where
  -- what is known to be narrow is within the width, operand by operand
  abbrev pub AreWithin : List Bool → List Outcome → Type 0
  AreWithin [] [] = Unit {0}
  AreWithin (b ∷ bs) (x ∷ xs) = (b ≡ true → IsOutcomeWithin n x) × AreWithin bs xs
  AreWithin _ _ = ⊥

  -- ---- functions

  pub called_within : (f : Option Function) (bs : List Bool) (xs : List Outcome) (r : Outcome) → AreWithin bs xs → called f bs ≡ true → IsOutcomeWithin n (function_called f xs r)
  called_within None bs xs r h g = absurd (cc)
  called_within (Some function.Dyn) (b ∷ []) (x ∷ []) r h g = outcome_within n (plain_part x) (plain_within n x (h.0 g))
  called_within (Some function.Size) (b ∷ []) (x ∷ []) r h g = flat_within n (size_of (plain_part x)) (size_flat (plain_part x))
  called_within (Some function.String) (b ∷ []) (x ∷ []) r h g = flat_within n _ (text_flat (plain_part x))
  called_within (Some function.Bool) (b ∷ []) (x ∷ []) r h g = flat_within n _ (bool_flat (plain_part x))
  called_within (Some f) bs xs r h g = absurd (grind arith)

  pub qualified_within : (q : Qualified) (bs : List Bool) (xs : List Outcome) (r : Outcome) → AreWithin bs xs → qualified_called q bs ≡ true → IsOutcomeWithin n (qualified_in q xs r)
  qualified_within qualified.OptionalOf (b ∷ []) (x ∷ []) r h g = some_within n x (h.0 g)
  qualified_within qualified.OptionalNone [] [] r h g = tt
  qualified_within qualified.OptionalOfNonZeroValue (b ∷ []) (x ∷ []) r h g = some_nonzero_within n x (h.0 g)
  qualified_within qualified.SetsContains (b ∷ c ∷ []) (x ∷ y ∷ []) r h g = flat_within n _ (sets_flat _ (plain_part x) (plain_part y))
  qualified_within qualified.SetsIntersects (b ∷ c ∷ []) (x ∷ y ∷ []) r h g = flat_within n _ (sets_flat _ (plain_part x) (plain_part y))
  qualified_within qualified.SetsEquivalent (b ∷ c ∷ []) (x ∷ y ∷ []) r h g = flat_within n _ (sets_flat _ (plain_part x) (plain_part y))
  qualified_within q bs xs r h g = absurd (grind arith)

  -- ---- methods

  item_of_within : (f : Items → Outcome) (x : ValueOrError) → ((is : Items) → width_of (list is) ≤ n → IsOutcomeWithin n (f is)) → result_width x ≤ n → IsOutcomeWithin n (item_of f x)
  item_of_within f error h g = tt
  item_of_within f (value null) h g = tt
  item_of_within f (value (boolean b)) h g = tt
  item_of_within f (value (int z)) h g = tt
  item_of_within f (value (text s)) h g = tt
  item_of_within f (value (list is)) h g = h is g
  item_of_within f (value (map es)) h g = tt

  first_item_within : (is : Items) → width_of (list is) ≤ n → IsOutcomeWithin n (first_item is)
  first_item_within no_items h = tt
  first_item_within (item v more) h = omega (arith, h)

  index_by : (x : Value) (k : ValueOrError) → width_of x ≤ n → result_width (index_of (value x) k) ≤ n
  index_by x error h = grind (arith)
  index_by x (value k) h = index_of_within n x k h

  last_item_within : (is : Items) → width_of (list is) ≤ n → IsOutcomeWithin n (last_item is)
  last_item_within no_items h = tt
  last_item_within (item v more) h =
      let k = difference_of (size_of (value (list (item v more)))) (value (int (pos 1))) in
      some_within n (outcome_of (index_of (value (list (item v more))) k)) (outcome_within n (index_of (value (list (item v more))) k) (index_by (list (item v more)) k h))

  kept_within : (f : Value → ValueOrError) (is : Items) → width_of (list is) ≤ n → result_width (macro_of Filter f (list_of is)) ≤ n
  kept_within f is h = where_within n (λ x. truth (f x)) (λ kept. list_or_error (Some kept)) (list_of is) (λ ws g. list_within n (Some ws) g) (range_within n (value (list is)) h)

  index_kept : (x : ValueOrError) → result_width x ≤ n → result_width (index_of x (value (int (pos 0)))) ≤ n
  index_kept error h = omega arith
  index_kept (value v) h = index_of_within n v (int (pos 0)) h

  extreme_within : (order : ValueOrError → ValueOrError → ValueOrError) (x : ValueOrError) → result_width x ≤ n → result_width (extreme_of order x) ≤ n
  extreme_within order error h = omega arith
  extreme_within order (value null) h = omega arith
  extreme_within order (value (boolean b)) h = omega arith
  extreme_within order (value (int z)) h = omega arith
  extreme_within order (value (text s)) h = omega arith
  extreme_within order (value (list is)) h =
      index_kept (macro_of Filter (λ v. macro_of All (λ w. order (value v) (value w)) (list_of is)) (list_of is))
      (kept_within (λ v. macro_of All (λ w. order (value v) (value w)) (list_of is)) is h)
  extreme_within order (value (map es)) h = omega arith

  pub method_within : (m : Method) (b : Bool) (bs : List Bool) (x : Outcome) (xs : List Outcome) (r : Outcome) → (b ≡ true → IsOutcomeWithin n x) → AreWithin bs xs
      → method_called m b bs ≡ true → IsOutcomeWithin n (method_in m x xs r)
  method_within method.Size b [] x [] r h g k = flat_within n (size_of (plain_part x)) (size_flat (plain_part x))
  method_within method.StartsWith b (c ∷ []) x (y ∷ []) r h g k = flat_within n _ (test_of_flat (Some test.StartsWith) (plain_part x) (plain_part y))
  method_within method.EndsWith b (c ∷ []) x (y ∷ []) r h g k = flat_within n _ (test_of_flat (Some test.EndsWith) (plain_part x) (plain_part y))
  method_within method.Contains b (c ∷ []) x (y ∷ []) r h g k = flat_within n _ (test_of_flat (Some test.Contains) (plain_part x) (plain_part y))
  method_within method.HasValue b [] x [] r h g k = present_within n x
  method_within method.Value b [] x [] r h g k = inner_within n x (h k)
  method_within method.OrValue b (c ∷ []) x (y ∷ []) r h g k = either_within n x y (h (and_left b c k)) (g.0 (and_right b c k))
  method_within method.Or b (c ∷ []) x (y ∷ []) r h g k = first_within n x y (h (and_left b c k)) (g.0 (and_right b c k))
  method_within method.First b [] x [] r h g k = item_of_within first_item (plain_part x) first_item_within (plain_within n x (h k))
  method_within method.Last b [] x [] r h g k = item_of_within last_item (plain_part x) last_item_within (plain_within n x (h k))
  method_within method.Min b [] x [] r h g k = outcome_within n _ (extreme_within less_equal_of (plain_part x) (plain_within n x (h k)))
  method_within method.Max b [] x [] r h g k = outcome_within n _ (extreme_within greater_equal_of (plain_part x) (plain_within n x (h k)))
  method_within method.IsSorted b [] x [] r h g k = flat_within n (of_items is_sorted (plain_part x)) (sorted_flat n (plain_part x))
  method_within method.Distinct b [] x [] r h g k = outcome_within n _ (of_items_within n distinct (plain_part x) (distinct_within n) (plain_within n x (h k)))
  method_within method.Reverse b [] x [] r h g k = outcome_within n _ (of_items_within n reversed (plain_part x) (reversed_within n) (plain_within n x (h k)))
  method_within method.Slice b (c ∷ d ∷ []) x (y ∷ z ∷ []) r h g k = outcome_within n _ (slice_within n (plain_part x) (plain_part y) (plain_part z) (plain_within n x (h k)))
  method_within m b bs x xs r h g k = absurd (grind arith)

  pub operand_within : (q : Option Qualified) (m : Option Method) (b : Bool) (bs : List Bool) (x : Outcome) (xs : List Outcome) (r : Outcome)
      → (b ≡ true → IsOutcomeWithin n x) → AreWithin bs xs → on_operand q m b bs ≡ true → IsOutcomeWithin n (operand_called q m x xs r)
  operand_within (Some q) m b bs x xs r h g k = qualified_within q bs xs r g k
  operand_within None (Some m) b bs x xs r h g k = method_within m b bs x xs r h g k
  operand_within None None b bs x xs r h g k = absurd (cc)
