-- Calls of functions and methods whose operands are reached.
use Rattle.std.proofs.Common.{◌≡◌, Bool, true, List, [], ◌∷◌, Option, Some, None, flat_map}
use Rattle.value_store.specs.Value.{Value}
use Rattle.cel_macros.specs.Comparison.{less_equal_of, greater_equal_of}
use Rattle.cel_macros.specs.declared.text_test.TextTest.TheVariants as test
use Rattle.wide_meaning.specs.Functions.{text_of, bool_of, first_item, last_item, extreme_of, method_in, qualified_in}
use Rattle.wide_meaning.specs.ListMethods.{of_items, is_sorted, distinct, reversed, slice_of}
use Rattle.wide_meaning.specs.Meaning.{called as function_called, method_called as operand_called}
use Rattle.wide_meaning.specs.Outcome.{Outcome, plain_part}
use Rattle.wide_meaning.specs.declared.function.Function.{Function}
use Rattle.wide_meaning.specs.declared.function.Function.TheVariants as function
use Rattle.wide_meaning.specs.declared.function.Method.{Method}
use Rattle.wide_meaning.specs.declared.function.Method.TheVariants as method
use Rattle.wide_meaning.specs.declared.function.Qualified.{Qualified}
use Rattle.wide_meaning.specs.declared.function.Qualified.TheVariants as qualified
use Rattle.wide_reach.specs.Known.{called, method_alone, method_with_one, method_with_two, qualified_alone}
use Rattle.wide_reach.specs.Known.{qualified_with_one, qualified_with_two, called_alone, called_with_one}
use Rattle.wide_reach.specs.Known.{called_with_two}
use Rattle.wide_reach.specs.Law.{IsOutcomeReached}
use Rattle.wide_reach.specs.Parts.{items}
use Rattle.wide_reach.specs.Ranges.{booleans, text_in, call_reach, method_reach, method_reach_with_one, reach_alone}
use Rattle.wide_reach.specs.Ranges.{reach_with_one, reach_with_two}
use Rattle.wide_reach.proofs.Operations.{and_left, and_right, texts_reached, item_of_reached, first_reached}
use Rattle.wide_reach.proofs.Operations.{last_reached, extreme_reached, of_items_reached, distinct_reached}
use Rattle.wide_reach.proofs.Operations.{reversed_reached, slice_reached}
use Rattle.wide_reach.proofs.Results.{outcome_reached, plain_reached, some_reached, either_reached, first_of_reached}
use Rattle.wide_reach.proofs.Results.{inner_reached, some_nonzero_reached}
use Rattle.wide_reach.proofs.Truths.{truth_reached, present_reached, text_test_bool, lists_bool, bool_of_bool, sorted_bool}

pub called_reached : (f : Option Function) (b : Bool) (vs : List Value) (x r : Outcome) → (b ≡ true → IsOutcomeReached vs x)
    → called f b ≡ true
    → IsOutcomeReached (call_reach f vs) (function_called f (x ∷ []) r)
called_reached (Some function.String) b vs x r h k =
    outcome_reached (flat_map text_in vs) (text_of (plain_part x)) (texts_reached vs (plain_part x) (plain_reached vs x (h k)))
called_reached (Some function.Dyn) b vs x r h k = outcome_reached vs (plain_part x) (plain_reached vs x (h k))
called_reached (Some function.Bool) b vs x r h k = truth_reached (bool_of (plain_part x)) (bool_of_bool (plain_part x))
called_reached (Some function.Size) b vs x r h k = absurd (cc)
called_reached None b vs x r h k = absurd (cc)

-- ---- methods

method_alone_reached : (m : Method) (b : Bool) (vs : List Value) (x r : Outcome) → (b ≡ true → IsOutcomeReached vs x)
    → method_alone m b ≡ true
    → IsOutcomeReached (method_reach m vs) (method_in m x [] r)
method_alone_reached method.HasValue b vs x r h k = present_reached x
method_alone_reached method.IsSorted b vs x r h k = truth_reached (of_items is_sorted (plain_part x)) (sorted_bool (plain_part x))
method_alone_reached method.Value b vs x r h k = inner_reached vs x (h k)
method_alone_reached method.First b vs x r h k =
    item_of_reached first_item (items vs) vs (plain_part x) (first_reached vs) (plain_reached vs x (h k))
method_alone_reached method.Last b vs x r h k =
    item_of_reached last_item (items vs) vs (plain_part x) (last_reached vs) (plain_reached vs x (h k))
method_alone_reached method.Min b vs x r h k =
    outcome_reached (items vs) (extreme_of less_equal_of (plain_part x))
    (extreme_reached less_equal_of vs (plain_part x) (plain_reached vs x (h k)))
method_alone_reached method.Max b vs x r h k =
    outcome_reached (items vs) (extreme_of greater_equal_of (plain_part x))
    (extreme_reached greater_equal_of vs (plain_part x) (plain_reached vs x (h k)))
method_alone_reached method.Distinct b vs x r h k =
    outcome_reached vs (of_items distinct (plain_part x))
    (of_items_reached distinct vs (plain_part x) (distinct_reached vs) (plain_reached vs x (h k)))
method_alone_reached method.Reverse b vs x r h k =
    outcome_reached vs (of_items reversed (plain_part x))
    (of_items_reached reversed vs (plain_part x) (reversed_reached vs) (plain_reached vs x (h k)))
method_alone_reached m b vs x r h k = absurd (cc)

method_with_one_reached : (m : Method) (b c : Bool) (vs ws : List Value) (x y r : Outcome) → (b ≡ true → IsOutcomeReached vs x)
    → (c ≡ true → IsOutcomeReached ws y) → method_with_one m b c ≡ true
    → IsOutcomeReached (method_reach_with_one m vs ws) (method_in m x (y ∷ []) r)
method_with_one_reached method.StartsWith b c vs ws x y r h g k =
    truth_reached _ (text_test_bool test.StartsWith (plain_part x) (plain_part y))
method_with_one_reached method.EndsWith b c vs ws x y r h g k = truth_reached _ (text_test_bool test.EndsWith (plain_part x) (plain_part y))
method_with_one_reached method.Contains b c vs ws x y r h g k = truth_reached _ (text_test_bool test.Contains (plain_part x) (plain_part y))
method_with_one_reached method.OrValue b c vs ws x y r h g k = either_reached vs ws x y (h (and_left b c k)) (g (and_right b c k))
method_with_one_reached method.Or b c vs ws x y r h g k = first_of_reached vs ws x y (h (and_left b c k)) (g (and_right b c k))
method_with_one_reached m b c vs ws x y r h g k = absurd (cc)

method_with_two_reached : (m : Method) (b : Bool) (vs : List Value) (x y z r : Outcome) → (b ≡ true → IsOutcomeReached vs x)
    → method_with_two m b ≡ true
    → IsOutcomeReached vs (method_in m x (y ∷ z ∷ []) r)
method_with_two_reached method.Slice b vs x y z r h k =
    outcome_reached vs (slice_of (plain_part x) (plain_part y) (plain_part z))
    (slice_reached vs (plain_part x) (plain_part y) (plain_part z) (plain_reached vs x (h k)))
method_with_two_reached m b vs x y z r h k = absurd (cc)

-- ---- functions with a namespace

qualified_alone_reached : (q : Qualified) (r : Outcome) → qualified_alone q ≡ true → IsOutcomeReached [] (qualified_in q [] r)
qualified_alone_reached qualified.OptionalNone r k = tt
qualified_alone_reached q r k = absurd (cc)

qualified_with_one_reached : (q : Qualified) (c : Bool) (ws : List Value) (y r : Outcome) → (c ≡ true → IsOutcomeReached ws y)
    → qualified_with_one q c ≡ true
    → IsOutcomeReached ws (qualified_in q (y ∷ []) r)
qualified_with_one_reached qualified.OptionalOf c ws y r g k = some_reached ws y (g k)
qualified_with_one_reached qualified.OptionalOfNonZeroValue c ws y r g k = some_nonzero_reached ws y (g k)
qualified_with_one_reached q c ws y r g k = absurd (cc)

qualified_with_two_reached : (q : Qualified) (y z r : Outcome) → qualified_with_two q ≡ true
    → IsOutcomeReached booleans (qualified_in q (y ∷ z ∷ []) r)
qualified_with_two_reached qualified.SetsContains y z r k = truth_reached _ (lists_bool _ (plain_part y) (plain_part z))
qualified_with_two_reached qualified.SetsIntersects y z r k = truth_reached _ (lists_bool _ (plain_part y) (plain_part z))
qualified_with_two_reached qualified.SetsEquivalent y z r k = truth_reached _ (lists_bool _ (plain_part y) (plain_part z))
qualified_with_two_reached q y z r k = absurd (cc)

-- ---- calls, by the number of their arguments

pub alone_reached : (q : Option Qualified) (m : Option Method) (b : Bool) (vs : List Value) (x r : Outcome)
    → (b ≡ true → IsOutcomeReached vs x)
    → called_alone q m b ≡ true → IsOutcomeReached (reach_alone q m vs) (operand_called q m x [] r)
alone_reached (Some q) m b vs x r h k = qualified_alone_reached q r k
alone_reached None (Some m) b vs x r h k = method_alone_reached m b vs x r h k
alone_reached None None b vs x r h k = absurd (cc)

pub with_one_reached : (q : Option Qualified) (m : Option Method) (b c : Bool) (vs ws : List Value) (x y r : Outcome)
    → (b ≡ true → IsOutcomeReached vs x)
    → (c ≡ true → IsOutcomeReached ws y) → called_with_one q m b c ≡ true
    → IsOutcomeReached (reach_with_one q m vs ws) (operand_called q m x (y ∷ []) r)
with_one_reached (Some q) m b c vs ws x y r h g k = qualified_with_one_reached q c ws y r g k
with_one_reached None (Some m) b c vs ws x y r h g k = method_with_one_reached m b c vs ws x y r h g k
with_one_reached None None b c vs ws x y r h g k = absurd (cc)

pub with_two_reached : (q : Option Qualified) (m : Option Method) (b : Bool) (vs : List Value) (x y z r : Outcome)
    → (b ≡ true → IsOutcomeReached vs x)
    → called_with_two q m b ≡ true → IsOutcomeReached (reach_with_two q vs) (operand_called q m x (y ∷ z ∷ []) r)
with_two_reached (Some q) m b vs x y z r h k = qualified_with_two_reached q y z r k
with_two_reached None (Some m) b vs x y z r h k = method_with_two_reached m b vs x y z r h k
with_two_reached None None b vs x y z r h k = absurd (cc)
