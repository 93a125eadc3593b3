-- Sums, and functions and methods of values that are reached.
use Rattle.std.proofs.Common.{◌≡◌, ℕ, ◌-◌, pos, ◌-ℤ◌, nat_le, ◌&&◌, Bool, true, false, List, ◌∷◌, ◌++◌, length, reverse}
use Rattle.std.proofs.Common.{take, drop, refl, ap, subst, Some, ⊎_elim, Contains, flat_map, if◌then◌else◌}
use Rattle.std.proofs.lemmas.List.Elements.{Contains-append_left}
use Rattle.cel_reader.specs.declared.operator.BinaryOperator.{BinaryOperator}
use Rattle.cel_reader.specs.declared.operator.BinaryOperator.TheVariants as binary
use Rattle.value_store.specs.Lookup.{has_item}
use Rattle.value_store.specs.Value.{Value, null, boolean, int, text, list, map, Items, no_items, item, list_of}
use Rattle.value_store.specs.Value.{items_of, items_join, items_push}
use Rattle.value_store.specs.Value.{ValueOrError, error, value}
use Rattle.cel_macros.specs.Arithmetic.{sum_of, difference_of, fits}
use Rattle.cel_macros.specs.Functions.{size_of}
use Rattle.cel_macros.specs.Literals.{list_or_error}
use Rattle.cel_macros.specs.Logic.{truth}
use Rattle.cel_macros.specs.Macros.{macro_of}
use Rattle.cel_macros.specs.Selection.{index_of}
use Rattle.cel_macros.specs.declared.macros.Macro.{TheVariants.All, TheVariants.Filter}
use Rattle.wide_meaning.specs.Functions.{text_of, first_item, last_item, item_of, extreme_of}
use Rattle.wide_meaning.specs.ListMethods.{of_items, new_items, distinct, reversed as reversed_result, items_between, slice_of}
use Rattle.wide_meaning.specs.Operators.{binary_in}
use Rattle.wide_meaning.specs.Outcome.{Outcome, plain_part, outcome_of}
use Rattle.wide_reach.specs.Known.{binary_known}
use Rattle.wide_reach.specs.Law.{IsOutcomeReached}
use Rattle.wide_reach.specs.Parts.{items}
use Rattle.wide_reach.specs.Ranges.{one_list, sums, sum_with, binary_reach, text_in as value_text}
use Rattle.wide_reach.specs.Reached.{IsReached, of_list}
use Rattle.wide_reach.proofs.Lists.{AreAmong, first, later, which, either, among, reversed, taken, dropped}
use Rattle.wide_reach.proofs.Reached.{list_items, boolean_in, int_in, text_in, more, left, right, listed_among, some_items, some_listed}
use Rattle.wide_reach.proofs.Results.{IsResultReached, outcome_reached, plain_reached, some_reached, valued_reached, list_index_reached}
use Rattle.wide_reach.proofs.Truths.{operator_reached}
use Rattle.wide_reach.proofs.Ranged.{where_reached}

pub and_left : (a b : Bool) → (a && b) ≡ true → a ≡ true
and_left true b h = refl
and_left false b h = h

pub and_right : (a b : Bool) → (a && b) ≡ true → b ≡ true
and_right true b h = h
and_right false b h = absurd (cc)

-- ---- sums

sum_contained : (vs ws : List Value) (a b : Value) → Contains vs a → Contains ws b
    → IsResultReached (binary_reach binary.Add vs ws) (sum_of (value a) (value b))
sum_contained vs ws a b i j =
    valued_reached (sums vs ws ++ one_list (items vs ++ items ws)) (sum_of (value a) (value b))
    (λ u m. Contains-append_left (sums vs ws) (one_list (items vs ++ items ws)) u
    (among (λ (v : Value). flat_map (sum_with v) ws) vs a u i (among (sum_with a) ws b u j m)))

joined : (is js : Items) → list_of (items_join is js) ≡ list_of is ++ list_of js
joined no_items js = refl
joined (item v is) js = ap (λ (vs : List Value). v ∷ vs) (joined is js)

joined_item : (vs ws : List Value) (is js : Items) → IsReached vs (list is) → IsReached ws (list js) → (v : Value)
    → Contains (list_of is ++ list_of js) v
    → IsReached (items vs ++ items ws) v
joined_item vs ws is js h g v i =
    ⊎_elim (λ l. left (items vs) (items ws) v (list_items vs is h v l)) (λ r. right (items vs) (items ws) v (list_items ws js g v r))
    (either (list_of is) (list_of js) v i)

lists_reached : (vs ws : List Value) (is js : Items) → IsReached vs (list is) → IsReached ws (list js)
    → IsReached (one_list (items vs ++ items ws)) (list (items_join is js))
lists_reached vs ws is js h g =
    of_list (λ v i. more (items vs ++ items ws) (items (one_list (items vs ++ items ws))) v
    (joined_item vs ws is js h g v (subst (λ (us : List Value). Contains us v) (joined is js) i)) (listed_among (items vs ++ items ws)))

sum_reached : (vs ws : List Value) (x y : ValueOrError) → IsResultReached vs x → IsResultReached ws y
    → IsResultReached (binary_reach binary.Add vs ws) (sum_of x y)
sum_reached vs ws (value (int a)) (value (int b)) h g = sum_contained vs ws (int a) (int b) (int_in vs a h) (int_in ws b g)
sum_reached vs ws (value (text a)) (value (text b)) h g = sum_contained vs ws (text a) (text b) (text_in vs a h) (text_in ws b g)
sum_reached vs ws (value (list is)) (value (list js)) h g =
    right (sums vs ws) (one_list (items vs ++ items ws)) (list (items_join is js)) (lists_reached vs ws is js h g)
sum_reached vs ws _ _ h g = tt

added : (vs ws : List Value) (b d : Bool) (x y : Outcome) → (b ≡ true → IsOutcomeReached vs x) → (d ≡ true → IsOutcomeReached ws y)
    → (b && d) ≡ true
    → IsOutcomeReached (binary_reach binary.Add vs ws) (outcome_of (sum_of (plain_part x) (plain_part y)))
added vs ws b d x y h g k =
    outcome_reached (binary_reach binary.Add vs ws) (sum_of (plain_part x) (plain_part y))
    (sum_reached vs ws (plain_part x) (plain_part y) (plain_reached vs x (h (and_left b d k))) (plain_reached ws y (g (and_right b d k))))

pub binary_reached : (c : Bool) (op : BinaryOperator) (vs ws : List Value) (b d : Bool) (x y : Outcome) → (b ≡ true → IsOutcomeReached vs x)
    → (d ≡ true → IsOutcomeReached ws y) → binary_known op b d ≡ true → IsOutcomeReached (binary_reach op vs ws) (binary_in c op x y)
binary_reached true binary.Add vs ws b d x y h g k = added vs ws b d x y h g k
binary_reached false binary.Add vs ws b d x y h g k = added vs ws b d x y h g k
binary_reached c binary.Subtract vs ws b d x y h g k = absurd (cc)
binary_reached c binary.Multiply vs ws b d x y h g k = absurd (cc)
binary_reached c binary.Divide vs ws b d x y h g k = absurd (cc)
binary_reached c binary.Remainder vs ws b d x y h g k = absurd (cc)
binary_reached c op vs ws b d x y h g k = operator_reached c op x y refl

-- ---- texts of values

text_contained : (vs : List Value) (v : Value) → Contains vs v → IsResultReached (flat_map value_text vs) (text_of (value v))
text_contained vs v i = valued_reached (flat_map value_text vs) (text_of (value v)) (λ u m. among value_text vs v u i m)

pub texts_reached : (vs : List Value) (x : ValueOrError) → IsResultReached vs x → IsResultReached (flat_map value_text vs) (text_of x)
texts_reached vs error h = tt
texts_reached vs (value null) h = tt
texts_reached vs (value (boolean b)) h = text_contained vs (boolean b) (boolean_in vs b h)
texts_reached vs (value (int z)) h = text_contained vs (int z) (int_in vs z h)
texts_reached vs (value (text s)) h = text_contained vs (text s) (text_in vs s h)
texts_reached vs (value (list is)) h = tt
texts_reached vs (value (map es)) h = tt

-- ---- one item of a list

pub item_of_reached : (f : Items → Outcome) (us vs : List Value) (x : ValueOrError)
    → ((is : Items) → IsReached vs (list is) → IsOutcomeReached us (f is))
    → IsResultReached vs x → IsOutcomeReached us (item_of f x)
item_of_reached f us vs (value (list is)) h g = h is g
item_of_reached f us vs _ h g = tt

pub first_reached : (vs : List Value) (is : Items) → IsReached vs (list is) → IsOutcomeReached (items vs) (first_item is)
first_reached vs no_items h = tt
first_reached vs (item v is) h = list_items vs (item v is) h v (first v (list_of is))

pub last_reached : (vs : List Value) (is : Items) → IsReached vs (list is) → IsOutcomeReached (items vs) (last_item is)
last_reached vs no_items h = tt
last_reached vs (item v is) h =
    let x : ValueOrError = value (list (item v is)) in
    let k = difference_of (size_of x) (value (int (pos 1))) in
    some_reached (items vs) (outcome_of (index_of x k)) (outcome_reached (items vs) (index_of x k) (list_index_reached vs (item v is) k h))

index_kept : (vs : List Value) (x : ValueOrError) → IsResultReached vs x → IsResultReached (items vs) (index_of x (value (int (pos 0))))
index_kept vs (value (list is)) h = list_index_reached vs is (value (int (pos 0))) h
index_kept vs _ h = tt

kept_reached : (f : Value → ValueOrError) (vs : List Value) (is : Items) → IsReached vs (list is)
    → IsResultReached vs (macro_of Filter f (list_of is))
kept_reached f vs is h = where_reached vs (λ x. truth (f x)) (λ ks. list_or_error (Some ks)) (list_of is) (λ ks s. some_listed vs is ks h s)

pub extreme_reached : (order : ValueOrError → ValueOrError → ValueOrError) (vs : List Value) (x : ValueOrError) → IsResultReached vs x
    → IsResultReached (items vs) (extreme_of order x)
extreme_reached order vs (value (list is)) h =
    index_kept vs (macro_of Filter (λ v. macro_of All (λ w. order (value v) (value w)) (list_of is)) (list_of is))
    (kept_reached (λ v. macro_of All (λ w. order (value v) (value w)) (list_of is)) vs is h)
extreme_reached order vs _ h = tt

-- ---- some items of a list

or_error : (vs : List Value) (b : Bool) (x : ValueOrError) → IsResultReached vs x → IsResultReached vs (if b then x else error)
or_error vs true x h = h
or_error vs false x h = tt

pub of_items_reached : (f : Items → ValueOrError) (vs : List Value) (x : ValueOrError)
    → ((is : Items) → IsReached vs (list is) → IsResultReached vs (f is))
    → IsResultReached vs x → IsResultReached vs (of_items f x)
of_items_reached f vs (value (list is)) h g = h is g
of_items_reached f vs _ h g = tt

new_if : (b : Bool) (w : Value) (rest more : Items) (v : Value) → AreAmong (list_of rest) (list_of more)
    → Contains (list_of (if b then rest else item w rest)) v → Contains (w ∷ list_of more) v
new_if true w rest more v s h = later w (list_of more) v (s v h)
new_if false w rest more v s h =
    ⊎_elim (λ e. subst (Contains (w ∷ list_of more)) e (first w (list_of more))) (λ m. later w (list_of more) v (s v m))
    (which w (list_of rest) v h)

new_among : (before rest : Items) → AreAmong (list_of (new_items before rest)) (list_of rest)
new_among before no_items v h = h
new_among before (item w rest) v h =
    new_if (has_item w before) w (new_items (items_push before w) rest) rest v (new_among (items_push before w) rest) h

pub distinct_reached : (vs : List Value) (is : Items) → IsReached vs (list is) → IsResultReached vs (distinct is)
distinct_reached vs is h = some_items vs is (new_items no_items is) h (new_among no_items is)

pub reversed_reached : (vs : List Value) (is : Items) → IsReached vs (list is) → IsResultReached vs (reversed_result is)
reversed_reached vs is h =
    or_error vs (fits (pos (length (list_of is)) -ℤ pos 1)) (value (list (items_of (reverse (list_of is)))))
    (some_listed vs is (reverse (list_of is)) h (reversed (list_of is)))

between_reached : (a b : ℕ) (vs : List Value) (is : Items) → IsReached vs (list is) → IsResultReached vs (items_between a b is)
between_reached a b vs is h =
    or_error vs (nat_le a b && nat_le b (length (list_of is))) (value (list (items_of (take (b - a) (drop a (list_of is))))))
    (some_listed vs is (take (b - a) (drop a (list_of is))) h (λ v i. dropped a (list_of is) v (taken (b - a) (drop a (list_of is)) v i)))

pub slice_reached : (vs : List Value) (x p q : ValueOrError) → IsResultReached vs x → IsResultReached vs (slice_of x p q)
slice_reached vs (value (list is)) (value (int (pos a))) (value (int (pos b))) h = between_reached a b vs is h
slice_reached vs _ _ _ h = tt
