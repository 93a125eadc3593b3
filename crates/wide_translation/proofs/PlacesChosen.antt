-- The places of a list between two others, and those of a value.
use Rattle.std.proofs.Common.{◌≡◌, ℕ, zero, suc, ◌+◌, ◌-◌, ◌<◌, ◌≤◌, ℤ, pos, negsuc, nat_le, nat_lt, int_lt, Bool, true, false, not, ◌&&◌, ◌||◌}
use Rattle.std.proofs.Common.{List, [], ◌∷◌, length, take, drop, get_or, slice_get, Option, Some, None, if◌then◌else◌, map as each, filter, refl, ap, sym, ◌∙◌, arith}
use Rattle.std.proofs.lemmas.List.{get_or-take, get_or-drop, length-take, length-drop}
use Rattle.std.proofs.lemmas.Option.{slice_get-get_or}
use Rattle.std.specs.List.{list_any}
use Rattle.value_store.specs.Equality.{equal}
use Rattle.value_store.specs.Value.{Value, ValueOrError, error, value, null, boolean, int, text, list, map, Items, no_items, item, items_of, list_of}
use Rattle.cel_macros.specs.Arithmetic.{difference_of}
use Rattle.cel_macros.specs.Comparison.{equal_of, less_of, less_equal_of}
use Rattle.cel_macros.specs.Environment.{value_or_error}
use Rattle.cel_macros.specs.Functions.{size_of}
use Rattle.cel_macros.specs.Literals.{list_or_error, values_in}
use Rattle.cel_macros.specs.Logic.{Truth, Yes, No, Other, truth, of_truth, and_of, ternary_of, conjunction}
use Rattle.cel_macros.specs.Macros.{is_yes, is_other}
use Rattle.cel_macros.specs.Selection.{index_of}
use Rattle.cel_macros.specs.declared.macros.Macro.TheVariants as plain_macro
use Rattle.wide_meaning.specs.ListMethods.{items_between, slice_of, places_of}
use Rattle.wide_meaning.specs.Ranges.{over_items, filter_map_over}
use Rattle.wide_translation.specs.Indexed.{ints_from}
use Rattle.wide_translation.proofs.PairLists.{bool_is_known}
use Rattle.wide_translation.proofs.Places.{of_int, tabulated, is_below, is_not_below, AreFrom, from_next, from_here}

-- ---- slice

-- whether a place is between a and b
abbrev pub is_between : ValueOrError → ValueOrError → Value → ValueOrError
is_between x y w = and_of (less_equal_of x (value w)) (less_of (value w) y)

between : (a b i : ℕ) → a ≤ i → i < b → is_between (of_int a) (of_int b) (int (pos i)) ≡ value (boolean true)
between a b i h g = λ j. and_of (value (boolean (not (is_not_below i a h j)))) (value (boolean (is_below i b g j)))

before : (a b i : ℕ) → i < a → is_between (of_int a) (of_int b) (int (pos i)) ≡ value (boolean false)
before a b i h = λ j. and_of (value (boolean (not (is_below i a h j)))) (less_of (of_int i) (of_int b))

no_and : (b : Bool) → and_of (value (boolean b)) (value (boolean false)) ≡ value (boolean false)
no_and true = refl
no_and false = refl

behind : (a b i : ℕ) → b ≤ i → is_between (of_int a) (of_int b) (int (pos i)) ≡ value (boolean false)
behind a b i h = (λ j. and_of (value (boolean (not (int_lt (pos i) (pos a))))) (value (boolean (is_not_below i b h j)))) ∙ no_and (not (int_lt (pos i) (pos a)))

and_known : (b c : Bool) → is_other (truth (and_of (value (boolean b)) (value (boolean c)))) ≡ false
and_known true true = refl
and_known true false = refl
and_known false c = refl

between_known : (a b i m : ℕ) → list_any (λ w. is_other (truth (is_between (of_int a) (of_int b) w))) (ints_from i m) ≡ false
between_known a b i zero = refl
between_known a b i (suc m) = λ j. and_known (not (int_lt (pos i) (pos a))) (int_lt (pos i) (pos b)) j || between_known a b (suc i) m j

-- the ints of a list that are between a and b
abbrev chosen_ints : ℕ → ℕ → List Value → List Value
chosen_ints a b ws = filter (λ w. is_yes (truth (is_between (of_int a) (of_int b) w))) ws

none_behind : (a b i m : ℕ) → b ≤ i → chosen_ints a b (ints_from i m) ≡ []
none_behind a b i zero h = refl
none_behind a b i (suc m) h =
    (λ j. if is_yes (truth (behind a b i h j)) then int (pos i) ∷ chosen_ints a b (ints_from (suc i) m) else chosen_ints a b (ints_from (suc i) m))
    ∙ none_behind a b (suc i) m (omega (arith, h))

all_between : (a b i l m : ℕ) → a ≤ i → b ≡ i + l → l ≤ m → chosen_ints a b (ints_from i m) ≡ ints_from i l
all_between a b i zero m h e g = none_behind a b i m (omega (arith, e))
all_between a b i (suc l) zero h e g = absurd (omega (arith, g))
all_between a b i (suc l) (suc m) h e g =
    (λ j. if is_yes (truth (between a b i h (omega (arith, e)) j)) then int (pos i) ∷ chosen_ints a b (ints_from (suc i) m) else chosen_ints a b (ints_from (suc i) m))
    ∙ ap (λ ws. int (pos i) ∷ ws) (all_between a b (suc i) l m (omega (arith, h)) (omega (arith, e)) (omega (arith, g)))

from_start : (a b i d m : ℕ) → i + d ≡ a → a ≤ b → b ≤ i + m → chosen_ints a b (ints_from i m) ≡ ints_from a (b - a)
from_start a b i zero m e h g =
    (λ j. chosen_ints a b (ints_from (a_is j) m)) ∙ all_between a b a (b - a) m (omega arith) (omega (arith, h)) (omega (arith, e, g))
  where
    a_is : i ≡ a
    a_is = omega (arith, e)
from_start a b i (suc d) zero e h g = absurd (omega (arith, e, h, g))
from_start a b i (suc d) (suc m) e h g =
    (λ j. if is_yes (truth (before a b i (omega (arith, e)) j)) then int (pos i) ∷ chosen_ints a b (ints_from (suc i) m) else chosen_ints a b (ints_from (suc i) m))
    ∙ from_start a b (suc i) d m (omega (arith, e)) h (omega (arith, g))

part_length : (vs : List Value) (a n : ℕ) → a + n ≤ length vs → length (take n (drop a vs)) ≡ n
part_length vs a n h = let d : length (drop a vs) ≡ length vs - a = length-drop a vs in length-take n (drop a vs) ∙ omega (arith, d, h)

part_at : (vs : List Value) (a n k : ℕ) → a + n ≤ length vs → k < n → slice_get vs (a + k) ≡ slice_get (take n (drop a vs)) k
part_at vs a n k h l =
    let t : length (take n (drop a vs)) ≡ n = part_length vs a n h in
    slice_get-get_or vs (a + k) null (omega (arith, h, l))
    ∙ ap Some (sym (get_or-drop a vs k null) ∙ sym (get_or-take n (drop a vs) k null l))
    ∙ sym (slice_get-get_or (take n (drop a vs)) k null (omega (arith, t, l)))

part_values : (is : Items) (a b : ℕ) → a ≤ b → b ≤ length (list_of is)
    → values_in (each (λ w. index_of (value (list is)) (value w)) (ints_from a (b - a))) ≡ Some (take (b - a) (drop a (list_of is)))
part_values is a b h g =
    let n : ℕ = b - a in
    let t : length (take n (drop a (list_of is))) ≡ n = part_length (list_of is) a n (omega (arith, h, g)) in
    (λ j. values_in (each (λ w. index_of (value (list is)) (value w)) (ints_from a (sym t j))))
    ∙ tabulated (λ w. index_of (value (list is)) (value w)) a (take n (drop a (list_of is)))
    (λ k lt. ap value_or_error (part_at (list_of is) a n k (omega (arith, h, g)) (omega (arith, lt, t))))

-- the test of the bounds, and what follows from it
abbrev pub bounds : Items → ValueOrError → ValueOrError → ValueOrError
bounds is x y = and_of (and_of (less_equal_of (of_int 0) x) (less_equal_of x y)) (less_equal_of y (size_of (value (list is))))

abbrev pub between_in : Items → ValueOrError → ValueOrError → ValueOrError
between_in is x y = filter_map_over (is_between x y) (λ w. index_of (value (list is)) (value w)) (Some (ints_from 0 (length (list_of is))))

abbrev sliced : Items → ValueOrError → ValueOrError → ValueOrError
sliced is x y = ternary_of (bounds is x y) (between_in is x y) error

-- a test that is not all true
first_fails : (s t u : Truth) (x : ValueOrError) → is_yes s ≡ false → ternary_of (of_truth (conjunction (truth (of_truth (conjunction s t))) u)) x error ≡ error
first_fails Yes t u x h = absurd (cc)
first_fails No t u x h = refl
first_fails Other Yes Yes x h = refl
first_fails Other Yes No x h = refl
first_fails Other Yes Other x h = refl
first_fails Other No u x h = refl
first_fails Other Other Yes x h = refl
first_fails Other Other No x h = refl
first_fails Other Other Other x h = refl

second_fails : (s t u : Truth) (x : ValueOrError) → is_yes t ≡ false → ternary_of (of_truth (conjunction (truth (of_truth (conjunction s t))) u)) x error ≡ error
second_fails s Yes u x h = absurd (cc)
second_fails No No u x h = refl
second_fails Yes No u x h = refl
second_fails Other No u x h = refl
second_fails No Other u x h = refl
second_fails Yes Other Yes x h = refl
second_fails Yes Other No x h = refl
second_fails Yes Other Other x h = refl
second_fails Other Other Yes x h = refl
second_fails Other Other No x h = refl
second_fails Other Other Other x h = refl

third_fails : (s t u : Truth) (x : ValueOrError) → is_yes u ≡ false → ternary_of (of_truth (conjunction (truth (of_truth (conjunction s t))) u)) x error ≡ error
third_fails s t Yes x h = absurd (cc)
third_fails No t No x h = refl
third_fails Yes Yes No x h = refl
third_fails Yes No No x h = refl
third_fails Yes Other No x h = refl
third_fails Other Yes No x h = refl
third_fails Other No No x h = refl
third_fails Other Other No x h = refl
third_fails No t Other x h = refl
third_fails Yes Yes Other x h = refl
third_fails Yes No Other x h = refl
third_fails Yes Other Other x h = refl
third_fails Other Yes Other x h = refl
third_fails Other No Other x h = refl
third_fails Other Other Other x h = refl

no_int : (is : Items) (x y : ValueOrError) → is_yes (truth (less_equal_of (of_int 0) x)) ≡ false → sliced is x y ≡ error
no_int is x y h = first_fails (truth (less_equal_of (of_int 0) x)) (truth (less_equal_of x y)) (truth (less_equal_of y (size_of (value (list is))))) (between_in is x y) h

no_end : (is : Items) (x y : ValueOrError) → is_yes (truth (less_equal_of x y)) ≡ false → sliced is x y ≡ error
no_end is x y h = second_fails (truth (less_equal_of (of_int 0) x)) (truth (less_equal_of x y)) (truth (less_equal_of y (size_of (value (list is))))) (between_in is x y) h

no_size : (is : Items) (x y : ValueOrError) → is_yes (truth (less_equal_of y (size_of (value (list is))))) ≡ false → sliced is x y ≡ error
no_size is x y h = third_fails (truth (less_equal_of (of_int 0) x)) (truth (less_equal_of x y)) (truth (less_equal_of y (size_of (value (list is))))) (between_in is x y) h

at_most : (a b : ℕ) → not (int_lt (pos b) (pos a)) ≡ nat_le a b
at_most a b = grind arith

sliced_by : (p q : Bool) (is : Items) (a b : ℕ) → nat_le a b ≡ p → nat_le b (length (list_of is)) ≡ q → sliced is (of_int a) (of_int b) ≡ items_between a b is
sliced_by false q is a b e f =
    no_end is (of_int a) (of_int b) ((λ j. is_yes (truth (value (boolean (at_most a b j))))) ∙ (λ j. is_yes (truth (value (boolean (e j))))))
    ∙ (λ j. if sym e j && nat_le b (length (list_of is)) then value (list (items_of (take (b - a) (drop a (list_of is))))) else error)
sliced_by true false is a b e f =
    no_size is (of_int a) (of_int b) ((λ j. is_yes (truth (value (boolean (at_most b (length (list_of is)) j))))) ∙ (λ j. is_yes (truth (value (boolean (f j))))))
    ∙ (λ j. if sym e j && sym f j then value (list (items_of (take (b - a) (drop a (list_of is))))) else error)
sliced_by true true is a b e f =
    let n : ℕ = length (list_of is) in
    let le : a ≤ b = grind (arith, e) in
    let lf : b ≤ n = grind (arith, f) in
    (λ j. ternary_of (and_of (and_of (value (boolean (at_most 0 a j))) (value (boolean (at_most a b j)))) (value (boolean (at_most b n j)))) (between_in is (of_int a) (of_int b)) error)
    ∙ (λ j. ternary_of (and_of (and_of (value (boolean (zero_first a j))) (value (boolean (e j)))) (value (boolean (f j)))) (between_in is (of_int a) (of_int b)) error)
    ∙ (λ j. if between_known a b 0 n j then error
    else list_or_error (values_in (each (λ w. index_of (value (list is)) (value w)) (from_start a b 0 a n (omega arith) le (omega (arith, lf)) j))))
    ∙ ap list_or_error (part_values is a b le lf)
    ∙ (λ j. if sym e j && sym f j then value (list (items_of (take (b - a) (drop a (list_of is))))) else error)
  where
    zero_first : (m : ℕ) → nat_le 0 m ≡ true
    zero_first m = grind arith

pub slice_values : (is : Items) (x y : ValueOrError) → sliced is x y ≡ slice_of (value (list is)) x y
slice_values is (value (int (pos a))) (value (int (pos b))) = sliced_by (nat_le a b) (nat_le b (length (list_of is))) is a b refl refl
slice_values is (value (int (pos a))) (value (int (negsuc b))) = no_end is (value (int (pos a))) (value (int (negsuc b))) refl
slice_values is (value (int (pos a))) error = no_end is (value (int (pos a))) error refl
slice_values is (value (int (pos a))) (value null) = no_end is (value (int (pos a))) (value null) refl
slice_values is (value (int (pos a))) (value (boolean b)) = no_end is (value (int (pos a))) (value (boolean b)) refl
slice_values is (value (int (pos a))) (value (text s)) = no_end is (value (int (pos a))) (value (text s)) refl
slice_values is (value (int (pos a))) (value (list js)) = no_end is (value (int (pos a))) (value (list js)) refl
slice_values is (value (int (pos a))) (value (map es)) = no_end is (value (int (pos a))) (value (map es)) refl
slice_values is (value (int (negsuc a))) y = no_int is (value (int (negsuc a))) y refl
slice_values is error y = no_int is error y refl
slice_values is (value null) y = no_int is (value null) y refl
slice_values is (value (boolean b)) y = no_int is (value (boolean b)) y refl
slice_values is (value (text s)) y = no_int is (value (text s)) y refl
slice_values is (value (list js)) y = no_int is (value (list js)) y refl
slice_values is (value (map es)) y = no_int is (value (map es)) y refl

-- ---- indexOf and lastIndexOf

-- whether the item at a place is equal to v
abbrev pub is_at : Items → Value → Value → ValueOrError
is_at is v w = equal_of (index_of (value (list is)) (value w)) (value v)

at_here : (is : Items) (i : ℕ) (v w : Value) (more : Items) → AreFrom is i (item w more) → is_at is v (int (pos i)) ≡ value (boolean (equal w v))
at_here is i v w more h = λ j. equal_of (value_or_error (from_here is i w more h j)) (value v)

places_known : (is : Items) (i : ℕ) (v : Value) (more : Items) → AreFrom is i more
    → list_any (λ w. is_other (truth (is_at is v w))) (ints_from i (length (list_of more))) ≡ false
places_known is i v no_items h = refl
places_known is i v (item w more) h =
    (λ j. is_other (truth (at_here is i v w more h j)) || list_any (λ u. is_other (truth (is_at is v u))) (ints_from (suc i) (length (list_of more))))
    ∙ (λ j. bool_is_known (equal w v) j || list_any (λ u. is_other (truth (is_at is v u))) (ints_from (suc i) (length (list_of more))))
    ∙ places_known is (suc i) v more (from_next is i w more h)

place_by : (b : Bool) (i : ℕ) (ws : List Value) (more : Items) → items_of ws ≡ more
    → items_of (if is_yes (truth (value (boolean b))) then int (pos i) ∷ ws else ws) ≡ (if b then item (int (pos i)) more else more)
place_by true i ws more h = ap (item (int (pos i))) h
place_by false i ws more h = h

places_from : (is : Items) (i : ℕ) (v : Value) (more : Items) → AreFrom is i more
    → items_of (filter (λ w. is_yes (truth (is_at is v w))) (ints_from i (length (list_of more)))) ≡ places_of v i more
places_from is i v no_items h = refl
places_from is i v (item w more) h =
    let rest : List Value = filter (λ u. is_yes (truth (is_at is v u))) (ints_from (suc i) (length (list_of more))) in
    (λ j. items_of (if is_yes (truth (at_here is i v w more h j)) then int (pos i) ∷ rest else rest))
    ∙ place_by (equal w v) i rest (places_of v (suc i) more) (places_from is (suc i) v more (from_next is i w more h))

pub places_values : (is : Items) (v : Value) → over_items plain_macro.Filter (is_at is v) (Some (ints_from 0 (length (list_of is)))) ≡ value (list (places_of v 0 is))
places_values is v =
    let h : AreFrom is 0 is = λ k. ap (slice_get (list_of is)) (omega arith) in
    (λ j. if places_known is 0 v is h j then error else value (list (places_from is 0 v is h j)))
