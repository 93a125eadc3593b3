-- The order of keys is kept by lookup in maps, insertion into them and placing.
use Rattle.value_store.proofs.Prelude.{◌≡◌, ℕ, suc, List, [], ◌∷◌, ◌++◌, Option, Some, Less, Greater, nat_cmp, false, bytes_eq, refl, arith, rules, false_from_ne_true, nat_list_cmp_total, is_eq-slice_cmp, bytes_eq-Decides, slice_cmp, AllByRecursion, is_eq, IfSome, option_map, option_and_then, slice_get, Value, Items, no_items, item, Entries, no_entries, entry, ValueOrError, keys_of, values_of, list_of, items_push, items_join, has_key, inserted, inserted_by, Ascend, IsOrdered, AreItemsOrdered, AreEntriesOrdered, IsResultOrdered, AreOrdered, value_at, entries_part, part_at, join_of, joined, push_of, pushed, put_of, put_in, placed, IsOrderedAt, InsertedInOrder, InsertedOnce, KeepsOrder}
use Rattle.std.proofs.Common.{Ordering}
use Rattle.std.specs.List.Sorted.{IsStrictlySortedBy}
use Rattle.value_store.specs.Value as kind

-- a key is less than each of these
abbrev pub BelowAll : List ℕ → List (List ℕ) → Type 0
BelowAll k ks = AllByRecursion (λ l. slice_cmp nat_cmp k l ≡ Less) ks

turned : (a b : List ℕ) → slice_cmp nat_cmp a b ≡ Greater → slice_cmp nat_cmp b a ≡ Less
turned a b e = grind (arith, nat_list_cmp_total)

below_rest : (j k : List ℕ) (ks : List (List ℕ)) → slice_cmp nat_cmp j k ≡ Less → BelowAll k ks → BelowAll j ks
below_rest j k [] e h = tt
below_rest j k (l ∷ ks) e h = grind (arith, nat_list_cmp_total, below_rest j k ks e h.1)

-- a key less than the new key and all others is less than the keys after the insertion
below_inserted : (first key : List ℕ) (x : Value) (es : Entries) → slice_cmp nat_cmp first key ≡ Less → BelowAll first (keys_of es)
    → IfSome (inserted key x es) (λ more. BelowAll first (keys_of more))
below_inserted first key x no_entries a b = (a, tt)
below_inserted first key x (entry k v more) a b = grind (arith, below_inserted first key x more a b.1)

ascends_by : (o : Ordering) (key : List ℕ) (x : Value) (k : List ℕ) (v : Value) (more : Entries) (rest : Option Entries) → slice_cmp nat_cmp key k ≡ o → Ascend (k ∷ keys_of more)
    → (slice_cmp nat_cmp k key ≡ Less → IfSome rest (λ es. BelowAll k (keys_of es))) → IfSome rest (λ es. Ascend (keys_of es)) → IfSome (inserted_by o key x k v more rest) (λ es. Ascend (keys_of es))
unfolding IsStrictlySortedBy
ascends_by Less key x k v more rest e up below asc = ((e, below_rest key k (keys_of more) e up.0), up)
ascends_by Greater key x k v more (Some es) e up below asc = (below (turned key k e), asc)
ascends_by _ key x k v more _ e up below asc = tt

pub inserted_in_order : InsertedInOrder
unfolding IsStrictlySortedBy
inserted_in_order key x no_entries up = (tt, tt)
inserted_in_order key x (entry k v more) up = grind (arith, ascends_by, nat_cmp, below_inserted, inserted_in_order key x more up.1)

-- a key less than all others is not among them
apart : (j k : List ℕ) → is_eq (slice_cmp nat_cmp j k) ≡ false → bytes_eq k j ≡ false
apart j k e = grind (arith, false_from_ne_true, bytes_eq-Decides, is_eq-slice_cmp)

below_has_not : (key : List ℕ) (es : Entries) → BelowAll key (keys_of es) → has_key key es ≡ false
below_has_not key no_entries h = refl
below_has_not key (entry k v more) h = grind (arith, apart, below_has_not key more)

pub inserted_once : InsertedOnce
unfolding IsStrictlySortedBy
inserted_once key x no_entries up = refl
inserted_once key x (entry k v more) up = grind (arith, apart, below_has_not, below_rest, bytes_eq-Decides, is_eq-slice_cmp, inserted_once key x more)

-- ---- the parts of ordered values

item_at : (is : Items) (i : ℕ) → AreItemsOrdered is → IfSome (slice_get (list_of is) i) IsOrdered
item_at (item v more) (suc i) h = item_at more i h.1
item_at is i h = grind arith

entry_at : (es : Entries) (i : ℕ) → AreEntriesOrdered es → IfSome (slice_get (values_of es) i) IsOrdered
entry_at (entry k v more) (suc i) h = entry_at more i h.1
entry_at es i h = grind arith

part : (h : Option ValueOrError) (i : ℕ) → IsOrderedAt h → IfSome (part_at h i) IsOrdered
part h i k = grind (arith, item_at, entry_at)

a_text : (o : Option (List ℕ)) → IfSome (option_map kind.text o) IsOrdered
a_text o = grind arith

-- ---- results made of ordered values

join_items : (is js : Items) → AreItemsOrdered is → AreItemsOrdered js → AreItemsOrdered (items_join is js)
join_items no_items js a b = b
join_items (item v more) js a b = (a.0, join_items more js a.1 b)

push_items : (is : Items) (v : Value) → AreItemsOrdered is → IsOrdered v → AreItemsOrdered (items_push is v)
push_items no_items v a b = (b, tt)
push_items (item w more) v a b = (a.0, push_items more v a.1 b)

pub join_ordered : (v w : Value) → IsOrdered v → IsOrdered w → IfSome (join_of v w) IsOrdered
join_ordered v w a b = grind (arith, join_items)

pub push_ordered : (v w : Value) → IsOrdered v → IsOrdered w → IfSome (push_of v w) IsOrdered
push_ordered v w a b = grind (arith, push_items)

entries_inserted : (key : List ℕ) (x : Value) (es : Entries) → IsOrdered x → AreEntriesOrdered es → IfSome (inserted key x es) AreEntriesOrdered
entries_inserted key x no_entries a b = (a, tt)
entries_inserted key x (entry k v more) a b = grind (arith, entries_inserted key x more a b.1)

as_map : (o : Option Entries) → IfSome o (λ es. Ascend (keys_of es)) → IfSome o AreEntriesOrdered → IfSome (option_map kind.map o) IsOrdered
as_map o a b = grind arith

pub put_ordered : (es : Entries) (key : List ℕ) (x : Value) → IsOrdered (kind.map es) → IsOrdered x → IfSome (put_of es key x) IsOrdered
put_ordered es key x a b = grind (arith, as_map, inserted_in_order, entries_inserted)

pub put_at_ordered : (key : List ℕ) (m x : Value) → IsOrdered m → IsOrdered x → IfSome (option_and_then (λ es. put_of es key x) (entries_part m)) IsOrdered
put_at_ordered key m x a b = grind (arith, put_ordered)

pub made_ordered : {v : Value} {o : Option Value} → Some v ≡ o → IfSome o IsOrdered → IsOrdered v
made_ordered {v} {o} e h = grind arith

join_two : (a b : Option ValueOrError) → IsOrderedAt a → IsOrderedAt b → IfSome (joined a b) IsOrdered
join_two a b h k = grind (arith, join_ordered)

push_two : (a b : Option ValueOrError) → IsOrderedAt a → IsOrderedAt b → IfSome (pushed a b) IsOrdered
push_two a b h k = grind (arith, push_ordered)

abbrev put_at : Entries → Option (List ℕ) → Option ValueOrError → Option Value
put_at es key x = option_and_then (λ k. option_and_then (put_of es k) (value_at x)) key

put_three : (m k x : Option ValueOrError) → IsOrderedAt m → IsOrderedAt x → IfSome (put_in m k x) IsOrdered
put_three m k x a b = grind (arith, put_ordered)

one_more : (vs : List ValueOrError) (x : ValueOrError) → AreOrdered vs → IsResultOrdered x → AreOrdered (vs ++ x ∷ [])
one_more [] x a b = (b, tt)
one_more (v ∷ vs) x a b = (a.0, one_more vs x a.1 b)

place_one : (vs : List ValueOrError) (v : Value) → AreOrdered vs → IsOrdered v → AreOrdered (placed vs v)
place_one vs v a b = grind (arith, one_more)

pub keeps_order : KeepsOrder
keeps_order = search (rules, part, a_text, join_two, push_two, put_three, place_one)
