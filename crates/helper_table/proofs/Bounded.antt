-- Parts of bounded values, and values built from them.
use Rattle.helper_table.proofs.Prelude.{◌≡◌, ◌+◌, ◌≤◌, ℕ, suc, List, length, Option, Some, refl, arith, IfSome, slice_get, option_map, joined, key_at, part_at, push_of, pushed, put_in, put_of, find, inserted, Value, list, map, Items, no_items, item, Entries, no_entries, entry, ValueOrError, list_of, keys_of, values_of, items_push, items_join, value_under, IsBounded, AreItemsBounded, AreEntriesBounded, IsResultBounded}

mutual
  pub looser : (v : Value) (n m : ℕ) → n ≤ m → IsBounded n v → IsBounded m v
  looser (list is) n m h b = grind (arith, looser_items is n m h b.1)
  looser (map es) n m h b = grind (arith, looser_entries es n m h b.1)
  looser v n m h b = grind arith

  pub looser_items : (is : Items) (n m : ℕ) → n ≤ m → AreItemsBounded n is → AreItemsBounded m is
  looser_items no_items n m h b = tt
  looser_items (item v is) n m h b = (looser v n m h b.0, looser_items is n m h b.1)

  pub looser_entries : (es : Entries) (n m : ℕ) → n ≤ m → AreEntriesBounded n es → AreEntriesBounded m es
  looser_entries no_entries n m h b = tt
  looser_entries (entry k v es) n m h b = grind (arith, looser v n m h b.1, looser_entries es n m h b.2)

-- ---- parts

item_bounded : (n : ℕ) (is : Items) (i : ℕ) (v : Value) → AreItemsBounded n is → slice_get (list_of is) i ≡ Some v → IsBounded n v
item_bounded n (item w is) (suc i) v b e = item_bounded n is i v b.1 e
item_bounded n is i v b e = grind arith

entry_bounded : (n : ℕ) (es : Entries) (i : ℕ) (v : Value) → AreEntriesBounded n es → slice_get (values_of es) i ≡ Some v → IsBounded n v
entry_bounded n (entry k w es) (suc i) v b e = entry_bounded n es i v b.2 e
entry_bounded n es i v b e = grind arith

key_bounded : (n : ℕ) (es : Entries) (i : ℕ) (k : List ℕ) → AreEntriesBounded n es → slice_get (keys_of es) i ≡ Some k → length k ≤ n
key_bounded n (entry l w es) (suc i) k b e = key_bounded n es i k b.2 e
key_bounded n es i k b e = grind arith

found_bounded : (n : ℕ) (key : List ℕ) (es : Entries) (v : Value) → AreEntriesBounded n es → find key es ≡ Some v → IsBounded n v
found_bounded n key no_entries v b e = absurd (cc)
found_bounded n key (entry k w es) v b e = grind (arith, found_bounded n key es v b.2)

pub under_bounded : (n : ℕ) (x : ValueOrError) (key : List ℕ) (v : Value) → IsResultBounded n x → value_under (Some x) key ≡ Some v → IsBounded n v
under_bounded n x key v b e = grind (arith, found_bounded)

pub part_bounded : (n : ℕ) (x : ValueOrError) (i : ℕ) (v : Value) → IsResultBounded n x → part_at (Some x) i ≡ Some v → IsBounded n v
part_bounded n x i v b e = grind (arith, item_bounded, entry_bounded)

pub key_text_bounded : (n : ℕ) (x : ValueOrError) (i : ℕ) (v : Value) → IsResultBounded n x → key_at (Some x) i ≡ Some v → IsBounded n v
key_text_bounded n x i v b e = grind (arith, key_bounded)

-- ---- lists

length-push : (is : Items) (v : Value) → length (list_of (items_push is v)) ≡ length (list_of is) + 1
length-push no_items v = refl
length-push (item w is) v = grind (arith, length-push is v)

push_items : (n : ℕ) (is : Items) (v : Value) → AreItemsBounded n is → IsBounded n v → AreItemsBounded n (items_push is v)
push_items n no_items v b bv = (bv, tt)
push_items n (item w is) v b bv = (b.0, push_items n is v b.1 bv)

join_items : (n : ℕ) (is js : Items) → AreItemsBounded n is → AreItemsBounded n js → AreItemsBounded n (items_join is js)
join_items n no_items js b c = c
join_items n (item w is) js b c = (b.0, join_items n is js b.1 c)

pub joined_items : (n : ℕ) (x y : ValueOrError) (is : Items) → IsResultBounded n x → IsResultBounded n y → joined (Some x) (Some y) ≡ Some (list is) → AreItemsBounded n is
joined_items n x y is b c e = grind (arith, join_items)

push_bounded : (n : ℕ) (v w u : Value) → IsBounded n v → IsBounded n w → push_of v w ≡ Some u → IsBounded (n + 2) u
push_bounded n v w u b c e = grind (arith, length-push, looser_items, push_items)

pub pushed_bounded : (n : ℕ) (x y : ValueOrError) (u : Value) → IsResultBounded n x → IsResultBounded n y → pushed (Some x) (Some y) ≡ Some u → IsBounded (n + 2) u
pushed_bounded n x y u b c e = grind (arith, push_bounded)

-- ---- maps

-- one more entry, no longer than the bound
record IsLonger (n : ℕ) (old new : Entries) : Type 0 where
  length_is : length (keys_of new) ≡ length (keys_of old) + 1
  bounded : AreEntriesBounded n new

inserted_bounded : (n : ℕ) (key : List ℕ) (x : Value) (es : Entries) → length key ≤ n → IsBounded n x → AreEntriesBounded n es
    → IfSome (inserted key x es) (IsLonger n es)
inserted_bounded n key x no_entries short b all = grind arith
inserted_bounded n key x (entry k v more) short b all = grind (arith, inserted_bounded n key x more short b all.2)

map_bounded : (n : ℕ) (es : Entries) (o : Option Entries) (u : Value) → length (keys_of es) ≤ n → IfSome o (IsLonger n es) → option_map map o ≡ Some u
    → IsBounded (n + 2) u
map_bounded n es o u short is e = grind (arith, looser_entries)

put_bounded : (n : ℕ) (es : Entries) (key : List ℕ) (v u : Value) → IsBounded n (map es) → length key ≤ n → IsBounded n v → put_of es key v ≡ Some u → IsBounded (n + 2) u
put_bounded n es key v u b short c e = map_bounded n es (inserted key v es) u b.0 (inserted_bounded n key v es short c b.1) e

pub put_in_bounded : (n : ℕ) (m k x : ValueOrError) (u : Value) → IsResultBounded n m → IsResultBounded n k → IsResultBounded n x
    → put_in (Some m) (Some k) (Some x) ≡ Some u → IsBounded (n + 2) u
put_in_bounded n m k x u b bk c e = grind (arith, put_bounded)
