-- The items of lists by their places, and what is made of each place.
use Rattle.std.proofs.Common.{◌≡◌, ℕ, zero, suc, ◌+◌, ◌-◌, ◌<◌, ◌≤◌, ◌^◌, ℤ, pos, negsuc, ◌-ℤ◌, ◌+ℤ◌, nat_le, nat_lt, int_lt, Bool, true, false, not, ◌&&◌, ◌||◌}
use Rattle.std.proofs.Common.{List, [], ◌∷◌, ◌++◌, length, reverse, take, drop, get_or, slice_get, Option, Some, None, option_map, if◌then◌else◌, map as each, filter, refl, ap, sym, subst, ◌∙◌, arith}
use Rattle.std.proofs.lemmas.List.{get_or-reverse, length-reverse}
use Rattle.std.proofs.lemmas.Option.{slice_get-get_or}
use Rattle.std.specs.List.{list_any, list_all}
use Rattle.value_store.proofs.Equal.{equal_decides}
use Rattle.value_store.specs.Equality.{equal}
use Rattle.value_store.specs.Lookup.{has_item}
use Rattle.value_store.specs.Value.{Value, ValueOrError, error, value, null, boolean, int, text, list, map, Items, no_items, item, items_of, list_of, items_push}
use Rattle.cel_macros.specs.Arithmetic.{fits, int_or_error, difference_of, sum_of}
use Rattle.cel_macros.specs.Comparison.{equal_of, less_of, less_equal_of}
use Rattle.cel_macros.specs.Environment.{value_or_error}
use Rattle.cel_macros.specs.Functions.{size_of}
use Rattle.cel_macros.specs.Literals.{list_literal, list_or_error, values_in, with_value}
use Rattle.cel_macros.specs.Logic.{Truth, Yes, No, Other, truth, and_of, not_of, ternary_of, conjunction}
use Rattle.cel_macros.specs.Macros.{range_of, is_yes, is_no, is_other, all_of, exists_of, macro_of, where_true, map_of}
use Rattle.cel_macros.specs.Selection.{index_of}
use Rattle.cel_macros.specs.declared.macros.Macro.TheVariants as plain_macro
use Rattle.wide_meaning.specs.ListMethods.{if_counted, orders_of, is_sorted, new_items, distinct, reversed, items_between, slice_of, places_of}
use Rattle.wide_meaning.specs.Ranges.{over_items, filter_map_over}
use Rattle.wide_translation.specs.Indexed.{ints_from, Covers}
use Rattle.wide_translation.proofs.PairLists.{list_again, items_again, bool_is_known, indices_kept}

-- ---- ints

abbrev pub of_int : ℕ → ValueOrError
of_int n = value (int (pos n))

minus : (m n : ℕ) → n ≤ m → pos m -ℤ pos n ≡ pos (m - n)
minus m n h = grind (arith, h)

minus_fits : (m n : ℕ) → n ≤ m → fits (pos m) ≡ true → fits (pos m -ℤ pos n) ≡ true
minus_fits m n h g = grind (arith, h, g)

plus_fits : (i n : ℕ) → i < n → fits (pos n) ≡ true → fits (pos i +ℤ pos 1) ≡ true
plus_fits i n h g = grind (arith, h, g)

last_of : (n : ℕ) → pos (suc n) -ℤ pos 1 ≡ pos n
last_of n = minus (suc n) 1 (omega arith) ∙ ap pos (omega arith)

difference : (m n : ℕ) → n ≤ m → fits (pos m) ≡ true → difference_of (of_int m) (of_int n) ≡ of_int (m - n)
difference m n h g = (λ j. if minus_fits m n h g j then value (int (minus m n h j)) else error)

successor : (i n : ℕ) → i < n → fits (pos n) ≡ true → sum_of (of_int i) (of_int 1) ≡ of_int (i + 1)
successor i n h g = λ j. if plus_fits i n h g j then of_int (i + 1) else error

-- ---- values that are made of each place

-- the item of a list at each place
pub tabulated : (f : Value → ValueOrError) (i : ℕ) (vs : List Value) → ((k : ℕ) → k < length vs → f (int (pos (i + k))) ≡ value_or_error (slice_get vs k))
    → values_in (each f (ints_from i (length vs))) ≡ Some vs
tabulated f i [] h = refl
tabulated f i (v ∷ vs) h =
    let here : f (int (pos i)) ≡ value v = ap (λ n. f (int (pos n))) (omega arith) ∙ h 0 (omega arith) in
    let rest : values_in (each f (ints_from (suc i) (length vs))) ≡ Some vs
    = tabulated f (suc i) vs (λ k lt. ap (λ n. f (int (pos n))) (omega arith) ∙ h (suc k) (omega (arith, lt))) in
    λ j. with_value (here j) (rest j)

-- ---- reverse

-- the place as seen from the end
from_end : (vs : List Value) (k : ℕ) → k < length vs → slice_get (reverse vs) k ≡ slice_get vs (length vs - 1 - k)
from_end vs k h =
    let e : length (reverse vs) ≡ length vs = length-reverse vs in
    slice_get-get_or (reverse vs) k null (omega (arith, h, e))
    ∙ ap Some (get_or-reverse vs k null h)
    ∙ sym (slice_get-get_or vs (length vs - 1 - k) null (omega (arith, h)))

-- what is made of a place for `reverse`
abbrev pub from_last : Items → Value → ValueOrError
from_last is w = index_of (value (list is)) (difference_of (difference_of (size_of (value (list is))) (of_int 1)) (value w))

at_reverse : (is : Items) (n k : ℕ) → length (list_of is) ≡ suc n → fits (pos n) ≡ true → k < length (list_of is)
    → from_last is (int (pos k)) ≡ value_or_error (slice_get (reverse (list_of is)) k)
at_reverse is n k e g h =
    let size : difference_of (size_of (value (list is))) (of_int 1) ≡ of_int n
    = (λ j. int_or_error (pos (e j) -ℤ pos 1)) ∙ (λ j. int_or_error (last_of n j)) ∙ (λ j. if g j then of_int n else error) in
    (λ j. index_of (value (list is)) (difference_of (size j) (of_int k)))
    ∙ (λ j. index_of (value (list is)) (difference n k (omega (arith, e, h)) g j))
    ∙ ap (λ m. value_or_error (slice_get (list_of is) m)) (omega (arith, e, h))
    ∙ ap value_or_error (sym (from_end (list_of is) k h))

reverse_values : (is : Items) (n : ℕ) → length (list_of is) ≡ suc n → fits (pos n) ≡ true
    → values_in (each (from_last is) (ints_from 0 (length (list_of is)))) ≡ Some (reverse (list_of is))
reverse_values is n e g =
    let l : length (reverse (list_of is)) ≡ length (list_of is) = length-reverse (list_of is) in
    (λ j. values_in (each (from_last is) (ints_from 0 (sym l j))))
    ∙ tabulated (from_last is) 0 (reverse (list_of is)) (λ k lt. ap (λ m. from_last is (int (pos m))) (omega arith) ∙ at_reverse is n k e g (omega (arith, lt, l)))

reverse_by : (b : Bool) (v : Value) (more : Items) → fits (pos (length (list_of more))) ≡ b
    → list_literal (each (from_last (item v more)) (ints_from 0 (length (list_of (item v more)))))
    ≡ (if b then value (list (items_of (reverse (list_of (item v more))))) else error)
reverse_by true v more g = ap list_or_error (reverse_values (item v more) (length (list_of more)) refl g)
reverse_by false v more g =
    let first : from_last (item v more) (int (pos 0)) ≡ error
    = (λ j. index_of (value (list (item v more))) (difference_of (int_or_error (last_of (length (list_of more)) j)) (of_int 0)))
    ∙ (λ j. index_of (value (list (item v more))) (difference_of (if g j then of_int (length (list_of more)) else error) (of_int 0))) in
    λ j. list_or_error (with_value (first j) (values_in (each (from_last (item v more)) (ints_from 1 (length (list_of more))))))

pub reversed_values : (is : Items) → list_literal (each (from_last is) (ints_from 0 (length (list_of is)))) ≡ reversed is
reversed_values no_items = refl
reversed_values (item v more) =
    reverse_by (fits (pos (length (list_of more)))) v more refl
    ∙ (λ j. if fits (sym (last_of (length (list_of more))) j) then value (list (items_of (reverse (list_of (item v more))))) else error)

-- ---- isSorted

-- whether the item at a place is at most the next one
abbrev pub at_most_next : Items → Value → ValueOrError
at_most_next is w = less_equal_of (index_of (value (list is)) (value w)) (index_of (value (list is)) (sum_of (value w) (of_int 1)))

-- the items from a place on are these
abbrev pub AreFrom : Items → ℕ → Items → Type 0
AreFrom is i more = (k : ℕ) → slice_get (list_of is) (i + k) ≡ slice_get (list_of more) k

pub from_next : (is : Items) (i : ℕ) (v : Value) (more : Items) → AreFrom is i (item v more) → AreFrom is (suc i) more
from_next is i v more h = λ k. ap (slice_get (list_of is)) (omega arith) ∙ h (suc k)

pub from_here : (is : Items) (i : ℕ) (v : Value) (more : Items) → AreFrom is i (item v more) → slice_get (list_of is) i ≡ Some v
from_here is i v more h = ap (slice_get (list_of is)) (omega arith) ∙ h 0

order_here : (is : Items) (i n : ℕ) (v w : Value) (more : Items) → AreFrom is i (item v (item w more)) → i < n → fits (pos n) ≡ true
    → at_most_next is (int (pos i)) ≡ less_equal_of (value v) (value w)
order_here is i n v w more h l g =
    let later : slice_get (list_of is) (i + 1) ≡ Some w
    = ap (slice_get (list_of is)) (omega arith) ∙ from_here is (suc i) w more (from_next is i v (item w more) h) in
    (λ j. less_equal_of (value_or_error (from_here is i v (item w more) h j)) (index_of (value (list is)) (successor i n l g j)))
    ∙ (λ j. less_equal_of (value v) (value_or_error (later j)))

orders_at : (is : Items) (i n : ℕ) (v : Value) (more : Items) → AreFrom is i (item v more) → i + length (list_of more) ≤ n → fits (pos n) ≡ true
    → each (λ w. truth (at_most_next is w)) (ints_from i (length (list_of more))) ≡ orders_of (item v more)
orders_at is i n v no_items h l g = refl
orders_at is i n v (item w more) h l g = λ j.
    truth (order_here is i n v w more h (omega (arith, l)) g j) ∷ orders_at is (suc i) n w more (from_next is i v (item w more) h) (omega (arith, l)) g j

-- the ints of a table that are less than the last place
abbrev pub but_last : ValueOrError → Items → ValueOrError
but_last y is = over_items plain_macro.Filter (λ w. less_of (value w) (difference_of (size_of (value (list is))) (of_int 1))) (range_of y)

none_negative : (i m : ℕ) → filter (λ w. is_yes (truth (less_of (value w) (value (int (negsuc 0)))))) (ints_from i m) ≡ []
none_negative i zero = refl
none_negative i (suc m) = none_negative (suc i) m

negative_known : (i m : ℕ) → list_any (λ w. is_other (truth (less_of (value w) (value (int (negsuc 0)))))) (ints_from i m) ≡ false
negative_known i zero = refl
negative_known i (suc m) = negative_known (suc i) m

some_unknown : (m : ℕ) → 0 < m → list_any (λ w. is_other (truth (less_of (value w) error))) (ints_from 0 m) ≡ true
some_unknown zero h = absurd (omega (arith, h))
some_unknown (suc m) h = refl

table_range : (m : ℕ) (y : ValueOrError) → y ≡ value (list (items_of (ints_from 0 m))) → range_of y ≡ Some (ints_from 0 m)
table_range m y e = (λ j. range_of (e j)) ∙ (λ j. Some (list_again (ints_from 0 m) j))

sorted_by : (b : Bool) (v : Value) (more : Items) (y : ValueOrError) → Covers y (value (list (item v more))) → fits (pos (length (list_of more))) ≡ b
    → over_items plain_macro.All (at_most_next (item v more)) (range_of (but_last y (item v more))) ≡ (if b then all_of (orders_of (item v more)) else error)
sorted_by true v more y c g =
    let is : Items = item v more in
    let n : ℕ = length (list_of more) in
    (λ j. over_items plain_macro.All (at_most_next is) (range_of (over_items plain_macro.Filter (λ w. less_of (value w) (int_or_error (last_of n j))) (table_range c.0 y c.1 j))))
    ∙ (λ j. over_items plain_macro.All (at_most_next is) (range_of (over_items plain_macro.Filter (λ w. less_of (value w) (if g j then of_int n else error)) (Some (ints_from 0 c.0)))))
    ∙ (λ j. over_items plain_macro.All (at_most_next is) (range_of (indices_kept n c.0 (let l = c.2 in omega (arith, l)) j)))
    ∙ (λ j. over_items plain_macro.All (at_most_next is) (Some (list_again (ints_from 0 n) j)))
    ∙ ap all_of (orders_at is 0 n v more (λ k. ap (slice_get (list_of is)) (omega arith)) (omega arith) g)
sorted_by false v more y c g =
    let is : Items = item v more in
    let n : ℕ = length (list_of more) in
    (λ j. over_items plain_macro.All (at_most_next is) (range_of (over_items plain_macro.Filter (λ w. less_of (value w) (int_or_error (last_of n j))) (table_range c.0 y c.1 j))))
    ∙ (λ j. over_items plain_macro.All (at_most_next is) (range_of (over_items plain_macro.Filter (λ w. less_of (value w) (if g j then of_int n else error)) (Some (ints_from 0 c.0)))))
    ∙ (λ j. over_items plain_macro.All (at_most_next is) (range_of (if some_unknown c.0 (let l = c.2 in omega (arith, l)) j then error
    else list_or_error (Some (filter (λ w. is_yes (truth (less_of (value w) error))) (ints_from 0 c.0))))))

pub sorted_values : (is : Items) (y : ValueOrError) → Covers y (value (list is)) → over_items plain_macro.All (at_most_next is) (range_of (but_last y is)) ≡ is_sorted is
sorted_values no_items y c =
    (λ j. over_items plain_macro.All (at_most_next no_items) (range_of (over_items plain_macro.Filter (λ w. less_of (value w) (value (int (negsuc 0)))) (table_range c.0 y c.1 j))))
    ∙ (λ j. over_items plain_macro.All (at_most_next no_items) (range_of (if negative_known 0 c.0 j then error else list_or_error (Some (none_negative 0 c.0 j)))))
sorted_values (item v more) y c =
    sorted_by (fits (pos (length (list_of more)))) v more y c refl
    ∙ (λ j. if fits (sym (last_of (length (list_of more))) j) then all_of (orders_of (item v more)) else error)

-- ---- ints that are less than others

pub is_below : (m n : ℕ) → m < n → int_lt (pos m) (pos n) ≡ true
is_below m n h = grind (arith, h)

pub is_not_below : (m n : ℕ) → n ≤ m → int_lt (pos m) (pos n) ≡ false
is_not_below m n h = grind (arith, h)

-- ---- distinct

bool_same : (a b : Bool) → (a ≡ true → b ≡ true) → (b ≡ true → a ≡ true) → a ≡ b
bool_same true true h g = refl
bool_same true false h g = sym (h refl)
bool_same false true h g = g refl
bool_same false false h g = refl

equal_back : (v w : Value) → equal v w ≡ equal w v
equal_back v w =
    bool_same (equal v w) (equal w v)
    (λ h. (equal_decides w v).1 (sym ((equal_decides v w).0 h)))
    (λ h. (equal_decides v w).1 (sym ((equal_decides w v).0 h)))

-- whether the item at an earlier place than w, the place u, is equal to that at w
abbrev pub is_same_before : Items → Value → Value → ValueOrError
is_same_before is w u = and_of (less_of (value u) (value w)) (equal_of (index_of (value (list is)) (value u)) (index_of (value (list is)) (value w)))

abbrev pub is_repeated : ValueOrError → Items → Value → ValueOrError
is_repeated y is w = not_of (over_items plain_macro.Exists (is_same_before is w) (range_of y))

later_step : (is : Items) (i a : ℕ) → i ≤ a → truth (is_same_before is (int (pos i)) (int (pos a))) ≡ No
later_step is i a h = λ j.
    truth (and_of (value (boolean (is_not_below a i h j))) (equal_of (index_of (value (list is)) (of_int a)) (index_of (value (list is)) (of_int i))))

none_later : (is : Items) (i a m : ℕ) → i ≤ a → exists_of (each (λ u. truth (is_same_before is (int (pos i)) u)) (ints_from a m)) ≡ value (boolean false)
none_later is i a zero h = refl
none_later is i a (suc m) h =
    (λ j. exists_of (later_step is i a h j ∷ each (λ u. truth (is_same_before is (int (pos i)) u)) (ints_from (suc a) m)))
    ∙ none_later is i (suc a) m (omega (arith, h))

known_and : (b : Bool) → truth (and_of (value (boolean true)) (value (boolean b))) ≡ truth (value (boolean b))
known_and true = refl
known_and false = refl

some_more : (b c : Bool) (ts : List Truth) → exists_of ts ≡ value (boolean c) → exists_of (truth (value (boolean b)) ∷ ts) ≡ value (boolean (b || c))
some_more true c ts h = refl
some_more false c ts h = h

earlier_step : (is : Items) (i a : ℕ) (v b : Value) → a < i → slice_get (list_of is) i ≡ Some v → slice_get (list_of is) a ≡ Some b
    → truth (is_same_before is (int (pos i)) (int (pos a))) ≡ truth (value (boolean (equal v b)))
earlier_step is i a v b h e f =
    (λ j. truth (and_of (value (boolean (is_below a i h j))) (equal_of (value_or_error (f j)) (value_or_error (e j)))))
    ∙ known_and (equal b v) ∙ ap (λ c. truth (value (boolean c))) (equal_back b v)

-- the items from the place a up to the place i
some_earlier : (is : Items) (i a m : ℕ) (v : Value) (before : Items) → slice_get (list_of is) i ≡ Some v → a + length (list_of before) ≡ i → length (list_of before) ≤ m
    → ((k : ℕ) → k < length (list_of before) → slice_get (list_of is) (a + k) ≡ slice_get (list_of before) k)
    → exists_of (each (λ u. truth (is_same_before is (int (pos i)) u)) (ints_from a m)) ≡ value (boolean (has_item v before))
some_earlier is i a m v no_items e l h g = none_later is i a m (omega (arith, l))
some_earlier is i a zero v (item b more) e l h g = absurd (omega (arith, h))
some_earlier is i a (suc m) v (item b more) e l h g =
    let here : slice_get (list_of is) a ≡ Some b = ap (slice_get (list_of is)) (omega arith) ∙ g 0 (omega arith) in
    let rest : exists_of (each (λ u. truth (is_same_before is (int (pos i)) u)) (ints_from (suc a) m)) ≡ value (boolean (has_item v more))
    = some_earlier is i (suc a) m v more e (omega (arith, l)) (omega (arith, h))
    (λ k lt. ap (slice_get (list_of is)) (omega arith) ∙ g (suc k) (omega (arith, lt))) in
    (λ j. exists_of (earlier_step is i a v b (omega (arith, l)) e here j ∷ each (λ u. truth (is_same_before is (int (pos i)) u)) (ints_from (suc a) m)))
    ∙ some_more (equal v b) (has_item v more) (each (λ u. truth (is_same_before is (int (pos i)) u)) (ints_from (suc a) m)) rest

-- the items before a place, and those from it on
abbrev IsSplit : Items → Items → Items → Type 0
IsSplit is before more =
    ((k : ℕ) → k < length (list_of before) → slice_get (list_of is) k ≡ slice_get (list_of before) k)
    × ((k : ℕ) → slice_get (list_of is) (length (list_of before) + k) ≡ slice_get (list_of more) k)

pushed_length : (before : Items) (v : Value) → length (list_of (items_push before v)) ≡ suc (length (list_of before))
pushed_length no_items v = refl
pushed_length (item w more) v = ap suc (pushed_length more v)

pushed_earlier : (before : Items) (v : Value) (k : ℕ) → k < length (list_of before) → slice_get (list_of (items_push before v)) k ≡ slice_get (list_of before) k
pushed_earlier no_items v k h = absurd (omega (arith, h))
pushed_earlier (item w more) v zero h = refl
pushed_earlier (item w more) v (suc k) h = pushed_earlier more v k (omega (arith, h))

pushed_last : (before : Items) (v : Value) → slice_get (list_of (items_push before v)) (length (list_of before)) ≡ Some v
pushed_last no_items v = refl
pushed_last (item w more) v = pushed_last more v

pushed_at : (is before : Items) (v : Value) (k : ℕ) → k < suc (length (list_of before))
    → ((i : ℕ) → i < length (list_of before) → slice_get (list_of is) i ≡ slice_get (list_of before) i) → slice_get (list_of is) (length (list_of before)) ≡ Some v
    → slice_get (list_of is) k ≡ slice_get (list_of (items_push before v)) k
pushed_at is before v k h g e = pushed_by (nat_lt k (length (list_of before))) refl
  where
    pushed_by : (b : Bool) → nat_lt k (length (list_of before)) ≡ b → slice_get (list_of is) k ≡ slice_get (list_of (items_push before v)) k
    pushed_by true q = let l : k < length (list_of before) = grind (arith, q) in g k l ∙ sym (pushed_earlier before v k l)
    pushed_by false q =
        let l : k ≡ length (list_of before) = grind (arith, q, h) in
        ap (slice_get (list_of is)) l ∙ e ∙ sym (pushed_last before v) ∙ ap (slice_get (list_of (items_push before v))) (sym l)

split_next : (is before : Items) (v : Value) (more : Items) → IsSplit is before (item v more) → IsSplit is (items_push before v) more
split_next is before v more h =
    let e : length (list_of (items_push before v)) ≡ suc (length (list_of before)) = pushed_length before v in
    let here : slice_get (list_of is) (length (list_of before)) ≡ Some v = ap (slice_get (list_of is)) (omega arith) ∙ h.1 0 in (
      (λ k lt. pushed_at is before v k (omega (arith, lt, e)) h.0 here),
      (λ k. ap (slice_get (list_of is)) (omega (arith, e)) ∙ h.1 (suc k)),
    )

module _ (is : Items) (y : ValueOrError) (c : Covers y (value (list is))) where
  repeated_at : (before : Items) (v : Value) (more : Items) → IsSplit is before (item v more) → length (list_of before) < length (list_of is)
      → is_repeated y is (int (pos (length (list_of before)))) ≡ value (boolean (not (has_item v before)))
  repeated_at before v more h l =
      let i : ℕ = length (list_of before) in
      (λ j. not_of (over_items plain_macro.Exists (is_same_before is (int (pos i))) (table_range c.0 y c.1 j)))
      ∙ (λ j. not_of (some_earlier is i 0 c.0 v before (ap (slice_get (list_of is)) (omega arith) ∙ h.1 0) (omega arith) (let q = c.2 in omega (arith, q, l))
      (λ k lt. ap (slice_get (list_of is)) (omega arith) ∙ h.0 k lt) j))

  new_known : (before more : Items) → IsSplit is before more → length (list_of before) + length (list_of more) ≡ length (list_of is)
      → list_any (λ w. is_other (truth (is_repeated y is w))) (ints_from (length (list_of before)) (length (list_of more))) ≡ false
  new_known before no_items h l = refl
  new_known before (item v more) h l =
      let e : length (list_of (items_push before v)) ≡ suc (length (list_of before)) = pushed_length before v in
      (λ j. is_other (truth (repeated_at before v more h (omega (arith, l)) j)) || list_any (λ w. is_other (truth (is_repeated y is w))) (ints_from (sym e j) (length (list_of more))))
      ∙ (λ j. bool_is_known (not (has_item v before)) j || list_any (λ w. is_other (truth (is_repeated y is w))) (ints_from (length (list_of (items_push before v))) (length (list_of more))))
      ∙ new_known (items_push before v) more (split_next is before v more h) (omega (arith, l, e))

  kept_by : (b : Bool) (i : ℕ) (v : Value) (ws : List Value) (more : Items) → slice_get (list_of is) i ≡ Some v
      → values_in (each (λ w. index_of (value (list is)) (value w)) ws) ≡ Some (list_of more)
      → values_in (each (λ w. index_of (value (list is)) (value w)) (if is_yes (truth (value (boolean (not b)))) then int (pos i) ∷ ws else ws))
      ≡ Some (list_of (if b then more else item v more))
  kept_by true i v ws more e h = h
  kept_by false i v ws more e h = λ j. with_value (value_or_error (e j)) (h j)

  new_values : (before more : Items) → IsSplit is before more → length (list_of before) + length (list_of more) ≡ length (list_of is)
      → values_in (each (λ w. index_of (value (list is)) (value w)) (filter (λ w. is_yes (truth (is_repeated y is w))) (ints_from (length (list_of before)) (length (list_of more)))))
      ≡ Some (list_of (new_items before more))
  new_values before no_items h l = refl
  new_values before (item v more) h l =
      let e : length (list_of (items_push before v)) ≡ suc (length (list_of before)) = pushed_length before v in
      let i : ℕ = length (list_of before) in
      let rest : List Value = filter (λ w. is_yes (truth (is_repeated y is w))) (ints_from (suc i) (length (list_of more))) in
      let later : values_in (each (λ w. index_of (value (list is)) (value w)) rest) ≡ Some (list_of (new_items (items_push before v) more))
      = (λ j. values_in (each (λ w. index_of (value (list is)) (value w)) (filter (λ w. is_yes (truth (is_repeated y is w))) (ints_from (sym e j) (length (list_of more))))))
      ∙ new_values (items_push before v) more (split_next is before v more h) (omega (arith, l, e)) in
      (λ j. values_in (each (λ w. index_of (value (list is)) (value w)) (if is_yes (truth (repeated_at before v more h (omega (arith, l)) j)) then int (pos i) ∷ rest else rest)))
      ∙ kept_by (has_item v before) i v rest (new_items (items_push before v) more) (ap (slice_get (list_of is)) (omega arith) ∙ h.1 0) later

  pub distinct_values : filter_map_over (is_repeated y is) (λ w. index_of (value (list is)) (value w)) (Some (ints_from 0 (length (list_of is)))) ≡ distinct is
  distinct_values =
      let h : IsSplit is no_items is = ((λ k lt. absurd (omega (arith, lt))), (λ k. ap (slice_get (list_of is)) (omega arith))) in
      (λ j. if new_known no_items is h (omega arith) j then error
      else list_or_error (new_values no_items is h (omega arith) j))
      ∙ ap (λ xs. value (list xs)) (items_again (new_items no_items is))
