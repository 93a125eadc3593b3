-- The value at a key is the value at the key's position.
use Rattle.value_store.proofs.Prelude.{◌≡◌, ℕ, suc, List, Option, Some, None, Bool, false, refl, ◌∙◌, arith, is_some, IsSome, option_map, option_and_then, slice_get, bytes_eq, if◌then◌else◌, ◌∷◌, Ordering, is_eq, slice_cmp, is_eq-slice_cmp, bytes_eq-Decides, Value, Entries, no_entries, entry, values_of, find, has_key, place_of_key, inserted, inserted_by}
use Rattle.std.specs.Ordering.{nat_cmp}

later : (o : Option ℕ) (v : Value) (vs : List Value) → option_and_then (slice_get vs) o ≡ option_and_then (slice_get (v ∷ vs)) (option_map suc o)
later o v vs = grind arith

pub find_place : (key : List ℕ) (es : Entries) → find key es ≡ option_and_then (slice_get (values_of es)) (place_of_key key es)
find_place key no_entries = refl
find_place key (entry k v more) = grind (arith, find_place key more)

both : (b : Bool) (v : Value) (o : Option Value) (p : Option ℕ) → is_some o ≡ is_some p → is_some (if b then Some v else o) ≡ is_some (if b then Some 0 else option_map suc p)
both b v o p e = grind arith

-- a map has a key if the key has a position
pub has_key_place : (key : List ℕ) (es : Entries) → has_key key es ≡ is_some (place_of_key key es)
has_key_place key no_entries = refl
has_key_place key (entry k v more) = grind (arith, has_key_place key more)

fits_by : (o : Ordering) (key : List ℕ) (x : Value) (k : List ℕ) (v : Value) (more : Entries) (rest : Option Entries) → is_eq o ≡ false → IsSome rest
    → IsSome (inserted_by o key x k v more rest)
fits_by o key x k v more rest e there = grind arith

other_key : (b : Bool) (p : Option ℕ) → (if b then Some 0 else option_map suc p) ≡ None → (b ≡ false) × (p ≡ None)
other_key b p e = grind arith

turned : (b : Bool) (xs ys : List ℕ) → bytes_eq xs ys ≡ b → bytes_eq ys xs ≡ false → b ≡ false
turned b xs ys e f = grind (arith, bytes_eq-Decides)

-- a key that has no position can be inserted
pub absent_fits : (key : List ℕ) (x : Value) (es : Entries) → place_of_key key es ≡ None → IsSome (inserted key x es)
absent_fits key x no_entries e = refl
absent_fits key x (entry k v more) e =
    let both = other_key (bytes_eq k key) (place_of_key key more) e in
    let apart = is_eq-slice_cmp key k ∙ turned (bytes_eq key k) key k refl both.0 in
    fits_by (slice_cmp nat_cmp key k) key x k v more (inserted key x more) apart (absent_fits key x more both.1)
