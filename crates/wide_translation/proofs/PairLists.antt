-- The items of lists and the values of maps, with indices and keys.
use Rattle.std.proofs.Common.{◌≡◌, ℕ, zero, suc, ◌+◌, ◌<◌, ◌≤◌, Bool, true, false, ◌||◌, List, [], ◌∷◌, length}
use Rattle.std.proofs.Common.{slice_get, Option, Some, None, pos, int_lt, bytes_eq, is_some, unwrap_or, if◌then◌else◌}
use Rattle.std.proofs.Common.{map as each, filter, refl, ap, ◌∙◌, arith}
use lib.Pointwise.{bytes_decides}
use Rattle.std.specs.List.{list_any}
use Rattle.value_store.proofs.Equal.{equal_decides}
use Rattle.value_store.specs.Lookup.{find}
use Rattle.value_store.specs.Value.{Value, ValueOrError, error, value, boolean, int, text, list, map, Items, no_items}
use Rattle.value_store.specs.Value.{item, Entries, no_entries, entry, items_of, list_of, keys_of}
use Rattle.cel_macros.specs.Comparison.{equal_of, less_of}
use Rattle.cel_macros.specs.Environment.{value_or_error}
use Rattle.cel_macros.specs.Literals.{list_literal, list_or_error, values_in, with_value}
use Rattle.cel_macros.specs.Logic.{truth}
use Rattle.cel_macros.specs.Macros.{range_of, is_yes, is_other}
use Rattle.cel_macros.specs.Selection.{index_of}
use Rattle.cel_macros.specs.declared.macros.Macro.TheVariants as plain_macro
use Rattle.wide_meaning.specs.Ranges.{over_items, numbered, keyed}
use Rattle.wide_translation.specs.Indexed.{ints_from, Covers}
use Rattle.wide_translation.specs.Pairs.{values_only, keys_only, both}
use Rattle.wide_translation.proofs.Environments.{picked}
use Rattle.wide_translation.proofs.PairForms.{is_list, values_in_map, pairs_in_map, indices_in}

-- ---- lists

pub list_again : (vs : List Value) → list_of (items_of vs) ≡ vs
list_again [] = refl
list_again (v ∷ vs) = ap (λ ws. v ∷ ws) (list_again vs)

pub items_again : (is : Items) → items_of (list_of is) ≡ is
items_again no_items = refl
items_again (item v is) = ap (item v) (items_again is)

own_values : (vs : List Value) → values_in (each (λ w. value w) vs) ≡ Some vs
own_values [] = refl
own_values (v ∷ vs) = ap (with_value (value v)) (own_values vs)

pub second_of : (n : ℕ) (vs : List Value) → each (picked values_only) (numbered n vs) ≡ vs
second_of n [] = refl
second_of n (v ∷ vs) = ap (λ ws. v ∷ ws) (second_of (suc n) vs)

pub first_of_keyed : (es part : Entries) → each (picked keys_only) (keyed es part) ≡ each text (keys_of part)
first_of_keyed es no_entries = refl
first_of_keyed es (entry k v more) = ap (λ ws. text k ∷ ws) (first_of_keyed es more)

pub list_is_list : (is : Items) → is_list (value (list is)) ≡ value (boolean true)
list_is_list is =
    (λ j. equal_of (list_or_error (own_values (list_of is) j)) (value (list is)))
    ∙ ap (λ ws. equal_of (value (list ws)) (value (list is))) (items_again is)
    ∙ ap (λ b. value (boolean b)) ((equal_decides (list is) (list is)).1 refl)

pub map_is_no_list : (es : Entries) → is_list (value (map es)) ≡ value (boolean false)
map_is_no_list es = λ j. equal_of (list_or_error (own_values (each text (keys_of es)) j)) (value (map es))

-- ---- maps

-- the keys of these entries are keys of the map es
abbrev AreIn : Entries → Entries → Type 0
AreIn es part = (n : List ℕ) → is_some (find n part) ≡ true → is_some (find n es) ≡ true

later_by : (b : Bool) (v : Value) (o : Option Value) → is_some o ≡ true → is_some (if b then Some v else o) ≡ true
later_by true v o h = refl
later_by false v o h = h

later : (es : Entries) (k : List ℕ) (v : Value) (more : Entries) → AreIn es (entry k v more) → AreIn es more
later es k v more h n g = h n (later_by (bytes_eq k n) v (find n more) g)

head_found : (k : List ℕ) (v : Value) (more : Entries) → is_some (find k (entry k v more)) ≡ true
head_found k v more = ap (λ b. is_some (if b then Some v else find k more)) ((bytes_decides k k).1 refl)

found_value : (o : Option Value) (v : Value) → is_some o ≡ true → value_or_error o ≡ value (unwrap_or o v)
found_value (Some w) v h = refl
found_value None v h = absurd (cc)

values_keyed : (es part : Entries) → AreIn es part → values_in (each (λ w. index_of (value (map es)) (value w)) (each text (keys_of part))) ≡ Some (each (picked values_only) (keyed es part))
values_keyed es no_entries h = refl
values_keyed es (entry k v more) h =
    λ j. with_value (found_value (find k es) v (h k (head_found k v more)) j) (values_keyed es more (later es k v more h) j)

pairs_keyed : (es part : Entries) → AreIn es part
    → values_in (each (λ w. list_literal (value w ∷ index_of (value (map es)) (value w) ∷ [])) (each text (keys_of part))) ≡ Some (each (picked both) (keyed es part))
pairs_keyed es no_entries h = refl
pairs_keyed es (entry k v more) h =
    λ j. with_value (list_literal (value (text k) ∷ found_value (find k es) v (h k (head_found k v more)) j ∷ [])) (pairs_keyed es more (later es k v more h) j)

range_again : (o : Option (List Value)) (vs : List Value) → o ≡ Some vs → range_of (list_or_error o) ≡ Some vs
range_again o vs e = (λ j. range_of (list_or_error (e j))) ∙ ap Some (list_again vs)

pub values_of_map : (es : Entries) → range_of (values_in_map (value (map es))) ≡ Some (each (picked values_only) (keyed es es))
values_of_map es = range_again _ _ (values_keyed es es (λ n h. h))

pub pairs_of_map : (es : Entries) → range_of (pairs_in_map (value (map es))) ≡ Some (each (picked both) (keyed es es))
pairs_of_map es = range_again _ _ (pairs_keyed es es (λ n h. h))

-- ---- the indices of a list

below : (n m : ℕ) → n < m → int_lt (pos n) (pos m) ≡ true
below n m h = grind (arith, h)

not_below : (n m : ℕ) → m ≤ n → int_lt (pos n) (pos m) ≡ false
not_below n m h = grind (arith, h)

-- whether an int is less than n
abbrev less_than : ℕ → Value → ValueOrError
less_than n w = less_of (value w) (value (int (pos n)))

none_below : (n i m : ℕ) → n ≤ i → filter (λ w. is_yes (truth (less_than n w))) (ints_from i m) ≡ []
none_below n i zero h = refl
none_below n i (suc m) h =
    (λ j. if is_yes (truth (value (boolean (not_below i n h j)))) then int (pos i) ∷ filter (λ w. is_yes (truth (less_than n w))) (ints_from (suc i) m)
    else filter (λ w. is_yes (truth (less_than n w))) (ints_from (suc i) m))
    ∙ none_below n (suc i) m (omega (arith, h))

some_below : (n i l m : ℕ) → n ≡ i + l → l ≤ m → filter (λ w. is_yes (truth (less_than n w))) (ints_from i m) ≡ ints_from i l
some_below n i zero m e h = none_below n i m (omega (arith, e))
some_below n i (suc l) zero e h = absurd (omega (arith, h))
some_below n i (suc l) (suc m) e h =
    (λ j. if is_yes (truth (value (boolean (below i n (omega (arith, e)) j)))) then int (pos i) ∷ filter (λ w. is_yes (truth (less_than n w))) (ints_from (suc i) m)
    else filter (λ w. is_yes (truth (less_than n w))) (ints_from (suc i) m))
    ∙ ap (λ ws. int (pos i) ∷ ws) (some_below n (suc i) l m (omega (arith, e)) (omega (arith, h)))

pub bool_is_known : (b : Bool) → is_other (truth (value (boolean b))) ≡ false
bool_is_known true = refl
bool_is_known false = refl

all_known : (n i m : ℕ) → list_any (λ w. is_other (truth (less_than n w))) (ints_from i m) ≡ false
all_known n i zero = refl
all_known n i (suc m) = λ j. bool_is_known (int_lt (pos i) (pos n)) j || all_known n (suc i) m j

pub indices_kept : (n m : ℕ) → n ≤ m → over_items plain_macro.Filter (λ w. less_than n w) (Some (ints_from 0 m)) ≡ value (list (items_of (ints_from 0 n)))
indices_kept n m h = λ j. if all_known n 0 m j then error else list_or_error (Some (some_below n 0 n m (omega arith) h j))

pub indices_of_list : (is : Items) (y : ValueOrError) → Covers y (value (list is)) → range_of (indices_in y (value (list is))) ≡ Some (ints_from 0 (length (list_of is)))
indices_of_list is y c =
    (λ j. range_of (over_items plain_macro.Filter (λ w. less_than (length (list_of is)) w) (range_of (c.1 j))))
    ∙ (λ j. range_of (over_items plain_macro.Filter (λ w. less_than (length (list_of is)) w) (Some (list_again (ints_from 0 c.0) j))))
    ∙ ap range_of (indices_kept (length (list_of is)) c.0 c.2)
    ∙ ap Some (list_again (ints_from 0 (length (list_of is))))

pub first_of_numbered : (i : ℕ) (vs : List Value) → ints_from i (length vs) ≡ each (picked keys_only) (numbered i vs)
first_of_numbered i [] = refl
first_of_numbered i (v ∷ vs) = ap (λ ws. int (pos i) ∷ ws) (first_of_numbered (suc i) vs)

this_item : (all : List Value) (i : ℕ) (v : Value) → slice_get all (i + 0) ≡ Some v → slice_get all i ≡ Some v
this_item all i v h = ap (slice_get all) (omega arith) ∙ h

numbered_pairs : (is : Items) (i : ℕ) (vs : List Value) → ((k : ℕ) → slice_get (list_of is) (i + k) ≡ slice_get vs k)
    → values_in (each (λ w. list_literal (value w ∷ index_of (value (list is)) (value w) ∷ [])) (ints_from i (length vs))) ≡ Some (each (picked both) (numbered i vs))
numbered_pairs is i [] h = refl
numbered_pairs is i (v ∷ vs) h = λ j.
    with_value (list_literal (value (int (pos i)) ∷ value_or_error (this_item (list_of is) i v (h 0) j) ∷ []))
    (numbered_pairs is (suc i) vs (λ k. ap (slice_get (list_of is)) (omega arith) ∙ h (suc k)) j)

pub pairs_of_list : (is : Items) (y : ValueOrError) → Covers y (value (list is))
    → range_of (over_items plain_macro.Map (λ w. list_literal (value w ∷ index_of (value (list is)) (value w) ∷ [])) (range_of (indices_in y (value (list is))))) ≡ Some (each (picked both) (numbered 0 (list_of is)))
pairs_of_list is y c =
    (λ j. range_of (over_items plain_macro.Map (λ w. list_literal (value w ∷ index_of (value (list is)) (value w) ∷ [])) (indices_of_list is y c j)))
    ∙ range_again _ _ (numbered_pairs is 0 (list_of is) (λ k. ap (slice_get (list_of is)) (omega arith)))
