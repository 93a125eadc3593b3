-- Results that are bools.
use Rattle.std.proofs.Common.{◌≡◌, ◌-ℤ◌, pos, Bool, true, false, not, nat_eq, count_by, List, [], ◌∷◌, length, Option}
use Rattle.std.proofs.Common.{Some, None, option_map, if◌then◌else◌}
use Rattle.std.specs.List.{list_any, list_all}
use Rattle.cel_reader.specs.Words.{is_one_of}
use Rattle.cel_reader.specs.declared.operator.BinaryOperator.{BinaryOperator}
use Rattle.cel_reader.specs.declared.operator.BinaryOperator.TheVariants as binary
use Rattle.value_store.specs.Lookup.{member}
use Rattle.value_store.specs.Order.{less}
use Rattle.value_store.specs.Value.{Value, null, boolean, int, text, list, map, Items, list_of}
use Rattle.value_store.specs.Value.{ValueOrError, error, value}
use Rattle.cel_macros.specs.Arithmetic.{fits}
use Rattle.cel_macros.specs.Comparison.{truth_or_error, on_values}
use Rattle.cel_macros.specs.Functions.{text_test_of}
use Rattle.cel_macros.specs.Logic.{Truth, Yes, No, Other, of_truth, truth, not_of, conjunction, disjunction}
use Rattle.cel_macros.specs.Macros.{all_of, exists_of, exists_one_of, is_yes, is_no, is_other}
use Rattle.cel_macros.specs.declared.text_test.TextTest.{TextTest}
use Rattle.wide_meaning.specs.Functions.{bool_of, true_texts, false_texts, on_lists}
use Rattle.wide_meaning.specs.ListMethods.{of_items, is_sorted, orders_of}
use Rattle.wide_meaning.specs.Operators.{same, tested, binary_in}
use Rattle.wide_meaning.specs.Outcome.{Outcome, failed, plain, absent, present, outcome_of, plain_part, is_present}
use Rattle.wide_reach.specs.Law.{IsOutcomeReached}
use Rattle.wide_reach.specs.Ranges.{booleans}
use Rattle.wide_reach.specs.Reached.{IsReached, one}
use Rattle.wide_reach.proofs.Lists.{first, later}
use Rattle.wide_reach.proofs.Results.{IsResultReached, outcome_reached}

-- the result, if it is a value, is a bool
abbrev pub IsTruth : ValueOrError → Type 0
IsTruth error = Unit {0}
IsTruth (value (boolean b)) = Unit {0}
IsTruth (value _) = ⊥

pub either_bool : (b : Bool) → IsReached booleans (boolean b)
either_bool false = one (first (boolean false) (boolean true ∷ []))
either_bool true = one (later (boolean false) (boolean true ∷ []) (boolean true) (first (boolean true) []))

truth_result : (x : ValueOrError) → IsTruth x → IsResultReached booleans x
truth_result error h = tt
truth_result (value null) h = absurd h
truth_result (value (boolean b)) h = either_bool b
truth_result (value (int z)) h = absurd h
truth_result (value (text s)) h = absurd h
truth_result (value (list is)) h = absurd h
truth_result (value (map es)) h = absurd h

pub truth_reached : (x : ValueOrError) → IsTruth x → IsOutcomeReached booleans (outcome_of x)
truth_reached x h = outcome_reached booleans x (truth_result x h)

-- ---- operators

of_truth_bool : (t : Truth) → IsTruth (of_truth t)
of_truth_bool Yes = tt
of_truth_bool No = tt
of_truth_bool Other = tt

test_bool : (o : Option Bool) → IsTruth (truth_or_error o)
test_bool (Some b) = tt
test_bool None = tt

compared_bool : (f : Value → Value → Option Bool) (x y : ValueOrError) → IsTruth (on_values f x y)
compared_bool f (value a) (value b) = test_bool (f a b)
compared_bool f (value a) error = tt
compared_bool f error y = tt

pub not_bool : (x : ValueOrError) → IsTruth (not_of x)
not_bool (value (boolean b)) = tt
not_bool _ = tt

if_bool : (b : Bool) (x y : ValueOrError) → IsTruth x → IsTruth y → IsTruth (if b then x else y)
if_bool true x y h g = h
if_bool false x y h g = g

tested_reached : (o : Option Bool) → IsOutcomeReached booleans (tested o)
tested_reached (Some b) = either_bool b
tested_reached None = tt

pub present_reached : (x : Outcome) → IsOutcomeReached booleans (is_present x)
present_reached failed = tt
present_reached (plain v) = tt
present_reached absent = either_bool false
present_reached (present v) = either_bool true

-- whether an operator is a test, or `and` or `or`
abbrev pub is_test : BinaryOperator → Bool
is_test binary.Add = false
is_test binary.Subtract = false
is_test binary.Multiply = false
is_test binary.Divide = false
is_test binary.Remainder = false
is_test _ = true

pub operator_reached : (c : Bool) (op : BinaryOperator) (x y : Outcome) → is_test op ≡ true → IsOutcomeReached booleans (binary_in c op x y)
operator_reached true binary.In x y h = either_bool false
operator_reached false binary.In x y h = truth_reached _ (compared_bool member (plain_part x) (plain_part y))
operator_reached true binary.Equal x y h = tested_reached (same x y)
operator_reached false binary.Equal x y h = tested_reached (same x y)
operator_reached true binary.NotEqual x y h = tested_reached (option_map not (same x y))
operator_reached false binary.NotEqual x y h = tested_reached (option_map not (same x y))
operator_reached true binary.Or x y h = truth_reached _ (of_truth_bool (disjunction (truth (plain_part x)) (truth (plain_part y))))
operator_reached false binary.Or x y h = truth_reached _ (of_truth_bool (disjunction (truth (plain_part x)) (truth (plain_part y))))
operator_reached true binary.And x y h = truth_reached _ (of_truth_bool (conjunction (truth (plain_part x)) (truth (plain_part y))))
operator_reached false binary.And x y h = truth_reached _ (of_truth_bool (conjunction (truth (plain_part x)) (truth (plain_part y))))
operator_reached true binary.Less x y h = truth_reached _ (compared_bool less (plain_part x) (plain_part y))
operator_reached false binary.Less x y h = truth_reached _ (compared_bool less (plain_part x) (plain_part y))
operator_reached true binary.LessEqual x y h =
    truth_reached _ (compared_bool (λ a b. option_map not (less b a)) (plain_part x) (plain_part y))
operator_reached false binary.LessEqual x y h =
    truth_reached _ (compared_bool (λ a b. option_map not (less b a)) (plain_part x) (plain_part y))
operator_reached true binary.GreaterEqual x y h =
    truth_reached _ (compared_bool (λ a b. option_map not (less a b)) (plain_part x) (plain_part y))
operator_reached false binary.GreaterEqual x y h =
    truth_reached _ (compared_bool (λ a b. option_map not (less a b)) (plain_part x) (plain_part y))
operator_reached true binary.Greater x y h = truth_reached _ (compared_bool (λ a b. less b a) (plain_part x) (plain_part y))
operator_reached false binary.Greater x y h = truth_reached _ (compared_bool (λ a b. less b a) (plain_part x) (plain_part y))
operator_reached true binary.Add x y h = absurd (cc)
operator_reached false binary.Add x y h = absurd (cc)
operator_reached true binary.Subtract x y h = absurd (cc)
operator_reached false binary.Subtract x y h = absurd (cc)
operator_reached true binary.Multiply x y h = absurd (cc)
operator_reached false binary.Multiply x y h = absurd (cc)
operator_reached true binary.Divide x y h = absurd (cc)
operator_reached false binary.Divide x y h = absurd (cc)
operator_reached true binary.Remainder x y h = absurd (cc)
operator_reached false binary.Remainder x y h = absurd (cc)

-- ---- macros

pub all_bool : (ts : List Truth) → IsTruth (all_of ts)
all_bool ts =
    if_bool (list_any is_no ts) (value (boolean false)) (if list_all is_yes ts then value (boolean true) else error) tt
    (if_bool (list_all is_yes ts) (value (boolean true)) error tt tt)

pub exists_bool : (ts : List Truth) → IsTruth (exists_of ts)
exists_bool ts =
    if_bool (list_any is_yes ts) (value (boolean true)) (if list_all is_no ts then value (boolean false) else error) tt
    (if_bool (list_all is_no ts) (value (boolean false)) error tt tt)

pub exists_one_bool : (ts : List Truth) → IsTruth (exists_one_of ts)
exists_one_bool ts = if_bool (list_any is_other ts) error (value (boolean (nat_eq (count_by is_yes ts) 1))) tt tt

-- ---- functions and methods

pub text_test_bool : (t : TextTest) (x y : ValueOrError) → IsTruth (text_test_of (Some t) x y)
text_test_bool t (value (text a)) (value (text b)) = tt
text_test_bool t _ _ = tt

pub lists_bool : (f : Items → Items → Bool) (x y : ValueOrError) → IsTruth (on_lists f x y)
lists_bool f (value (list xs)) (value (list ys)) = tt
lists_bool f _ _ = tt

pub bool_of_bool : (x : ValueOrError) → IsTruth (bool_of x)
bool_of_bool (value (boolean b)) = tt
bool_of_bool (value (text s)) =
    if_bool (is_one_of true_texts s) (value (boolean true)) (if is_one_of false_texts s then value (boolean false) else error) tt
    (if_bool (is_one_of false_texts s) (value (boolean false)) error tt tt)
bool_of_bool _ = tt

pub sorted_bool : (x : ValueOrError) → IsTruth (of_items is_sorted x)
sorted_bool (value (list is)) =
    if_bool (fits (pos (length (list_of is)) -ℤ pos 1)) (all_of (orders_of is)) error (all_bool (orders_of is)) tt
sorted_bool _ = tt
