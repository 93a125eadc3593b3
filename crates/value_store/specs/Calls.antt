-- Results of the calls of a store, from the values at their references. A result is None if a
-- reference is invalid or its value is of another kind.
use Rattle.std.specs.Prelude.{◌≡◌, ℕ, Bool, true, List, [], ◌++◌, Option, Some, None, Result, Ok, Err, slice_get, option_map, option_and_then}
use Rattle.value_store.specs.Value.{Value, text, list, map, Entries, ValueOrError, error, value, list_of, keys_of}
use Rattle.value_store.specs.Value.{values_of, items_push, items_join}
use Rattle.std.specs.declared.alloc.AllocError.{AllocError}
use Rattle.value_store.specs.Equality.{equal}
use Rattle.value_store.specs.Order.{less}
use Rattle.value_store.specs.Lookup.{text_part, place_of_key, member, inserted}
use Rattle.value_store.specs.Placing.{is_appended, place, placed}

-- a value is placed and the result is its reference; or the allocation for a value that must be
-- appended fails, and the store is unchanged
abbrev pub Places : List ValueOrError → Value → Result ℕ AllocError → List ValueOrError → Type 0
Places old v (Ok h) new = (h ≡ place old v) × (new ≡ placed old v)
Places old v (Err e) new = (is_appended v ≡ true) × (new ≡ old)

-- the value, unless it is the error
abbrev pub value_part : ValueOrError → Option Value
value_part error = None
value_part (value v) = Some v

-- the entries of a map
abbrev pub entries_part : Value → Option Entries
entries_part (map es) = Some es
entries_part _ = None

-- the value at a reference
abbrev pub value_at : Option ValueOrError → Option Value
value_at o = option_and_then value_part o

-- the bytes of the text at a reference
abbrev pub text_at : Option ValueOrError → Option (List ℕ)
text_at o = option_and_then text_part (value_at o)

-- the entries of the map at a reference
abbrev pub entries_at : Option ValueOrError → Option Entries
entries_at o = option_and_then entries_part (value_at o)

-- f applied to two values; None if one is missing
abbrev pub on_values : {A : Type 0} → (Value → Value → Option A) → Option Value → Option Value → Option A
on_values f (Some a) (Some b) = f a b
on_values f _ _ = None

-- whether the values at two references are equal
abbrev pub equal_at : Option ValueOrError → Option ValueOrError → Option Bool
equal_at a b = on_values (λ v w. Some (equal v w)) (value_at a) (value_at b)

-- whether the value at one reference is less than that at another
abbrev pub less_at : Option ValueOrError → Option ValueOrError → Option Bool
less_at a b = on_values less (value_at a) (value_at b)

-- whether the value at x is an item of the list at c, or a key of the map there
abbrev pub member_at : Option ValueOrError → Option ValueOrError → Option Bool
member_at x c = on_values member (value_at x) (value_at c)

-- the position of a key in the map at a reference, counted from 0; None inside if the map does not have the key
abbrev pub find_at : Option ValueOrError → List ℕ → Option (Option ℕ)
find_at m key = option_map (place_of_key key) (entries_at m)

-- the items of a list, or the values of a map in the order of its keys; empty for other values
abbrev pub parts_of : Value → List Value
parts_of (list is) = list_of is
parts_of (map es) = values_of es
parts_of _ = []

-- the i-th item of the list at a reference, or the i-th value of the map there, counted from 0
abbrev pub part_at : Option ValueOrError → ℕ → Option Value
part_at h i = option_and_then (λ v. slice_get (parts_of v) i) (value_at h)

-- the i-th key of the map at a reference, counted from 0
abbrev pub key_at : Option ValueOrError → ℕ → Option Value
key_at h i = option_map text (option_and_then (λ es. slice_get (keys_of es) i) (entries_at h))

-- the concatenation of two texts or two lists; None for other values
abbrev pub join_of : Value → Value → Option Value
join_of (text s) (text t) = Some (text (s ++ t))
join_of (list is) (list js) = Some (list (items_join is js))
join_of _ _ = None

-- the concatenation of the texts or lists at two references
abbrev pub joined : Option ValueOrError → Option ValueOrError → Option Value
joined a b = on_values join_of (value_at a) (value_at b)

-- the list with the value appended; None if it is not a list
abbrev pub push_of : Value → Value → Option Value
push_of (list is) x = Some (list (items_push is x))
push_of _ x = None

-- the list at a reference with the value at another appended
abbrev pub pushed : Option ValueOrError → Option ValueOrError → Option Value
pushed l x = on_values push_of (value_at l) (value_at x)

-- the map with one more entry; None if it already has the key
abbrev pub put_of : Entries → List ℕ → Value → Option Value
put_of es key x = option_map map (inserted key x es)

-- the map at a reference with one more entry, under a key that it does not have
abbrev pub put_in : Option ValueOrError → Option ValueOrError → Option ValueOrError → Option Value
put_in m k x = option_and_then (λ es. option_and_then (λ key. option_and_then (put_of es key) (value_at x)) (text_at k)) (entries_at m)
