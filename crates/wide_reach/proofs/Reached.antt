-- Values that are reached, and their parts.
use Rattle.std.proofs.Common.{◌≡◌, ℕ, ℤ, Bool, true, false, List, [], ◌∷◌, ◌++◌, refl, sym, subst, ap, Option, Some}
use Rattle.std.proofs.Common.{◌⊎◌, inl, inr, ⊎_elim, Contains, option_to_list, bytes_eq, if◌then◌else◌}
use Rattle.std.proofs.lemmas.List.Elements.{Contains-append_left, Contains-append_right}
use Rattle.std.proofs.lemmas.Slice.Eq.{bytes_eq-Decides}
use Rattle.value_store.specs.Lookup.{find}
use Rattle.value_store.specs.Value.{Value, null, boolean, int, text, list, map, Items, list_of, items_of, Entries}
use Rattle.value_store.specs.Value.{no_entries, entry, keys_of, values_of}
use Rattle.wide_reach.specs.Law.{ScalarsAreContained}
use Rattle.wide_reach.specs.Parts.{items, items_in, keys, keys_in, fields, field_in, entries, entries_in}
use Rattle.wide_reach.specs.Ranges.{one_list}
use Rattle.wide_reach.specs.Reached.{IsReached, one, of_list, of_map}
use Rattle.wide_reach.proofs.Lists.{AreAmong, some_same, first, later, none, which, listed, among, mapped, flat_among, each_among}

-- ---- entries of a map

pub found_field : (es : Entries) (k : List ℕ) (v : Value) → find k es ≡ Some v → Contains (field_in k (map es)) v
found_field es k v e = subst (λ (o : Option Value). Contains (option_to_list o) v) (sym e) (first v [])

found_by : (b : Bool) (w : Value) (o : Option Value) (ws : List Value) (v : Value) → (o ≡ Some v → Contains ws v)
    → (if b then Some w else o) ≡ Some v → Contains (w ∷ ws) v
found_by true w o ws v h e = subst (Contains (w ∷ ws)) (some_same w w v e) (first w ws)
found_by false w o ws v h e = later w ws v (h e)

found_value : (es : Entries) (k : List ℕ) (v : Value) → find k es ≡ Some v → Contains (values_of es) v
found_value no_entries k v e = absurd (cc)
found_value (entry l w more) k v e = found_by (bytes_eq l k) w (find k more) (values_of more) v (found_value more k v) e

key_by : (b : Bool) (w : Value) (o : Option Value) → (b ≡ true) ⊎ ((v : Value) × (o ≡ Some v))
    → (v : Value) × ((if b then Some w else o) ≡ Some v)
key_by true w o h = (w, refl)
key_by false w o h = ⊎_elim (λ e. absurd (cc)) (λ s. s) h

-- the value at a key of a map
pub key_found : (es : Entries) (k : List ℕ) → Contains (keys_of es) k → (v : Value) × (find k es ≡ Some v)
key_found no_entries k h = absurd (none k h)
key_found (entry l w more) k h =
    key_by (bytes_eq l k) w (find k more)
    (⊎_elim (λ e. inl ((bytes_eq-Decides l k).1 e)) (λ m. inr (key_found more k m)) (which l (keys_of more) k h))

field_entries : (k : List ℕ) (v : Value) → AreAmong (field_in k v) (entries_in v)
field_entries k null x h = h
field_entries k (boolean b) x h = h
field_entries k (int z) x h = h
field_entries k (text s) x h = h
field_entries k (list is) x h = h
field_entries k (map es) x h = found_value es k x (listed (find k es) x h)

pub fields_among : (k : List ℕ) (vs : List Value) → AreAmong (fields k vs) (entries vs)
fields_among k vs = each_among (field_in k) entries_in vs (field_entries k)

-- ---- parts of a value that is reached

pub list_items : (vs : List Value) (is : Items) → IsReached vs (list is) → (v : Value) → Contains (list_of is) v → IsReached (items vs) v
list_items vs is (one m) v i = one (among items_in vs (list is) v m i)
list_items vs is (of_list f) v i = f v i

pub map_keys : (vs : List Value) (es : Entries) → IsReached vs (map es) → (k : List ℕ) → Contains (keys_of es) k
    → Contains (keys vs) (text k)
map_keys vs es (one m) k i = among keys_in vs (map es) (text k) m (mapped text (keys_of es) k i)
map_keys vs es (of_map f g) k i = f k i

pub map_fields : (vs : List Value) (es : Entries) → IsReached vs (map es) → (k : List ℕ) (v : Value) → find k es ≡ Some v
    → IsReached (fields k vs) v
map_fields vs es (one m) k v e = one (among (field_in k) vs (map es) v m (found_field es k v e))
map_fields vs es (of_map f g) k v e = g k v e

pub boolean_in : (vs : List Value) (b : Bool) → IsReached vs (boolean b) → Contains vs (boolean b)
boolean_in vs b (one m) = m

pub int_in : (vs : List Value) (z : ℤ) → IsReached vs (int z) → Contains vs (int z)
int_in vs z (one m) = m

pub text_in : (vs : List Value) (s : List ℕ) → IsReached vs (text s) → Contains vs (text s)
text_in vs s (one m) = m

pub scalars_are_contained : ScalarsAreContained
scalars_are_contained = record { ints = int_in; texts = text_in }

-- ---- more values

pub more : (vs ws : List Value) (v : Value) → IsReached vs v → AreAmong vs ws → IsReached ws v
more vs ws v (one m) s = one (s v m)
more vs ws v (of_list f) s = of_list (λ w i. more (items vs) (items ws) w (f w i) (flat_among items_in vs ws s))
more vs ws v (of_map f g) s =
    of_map (λ k i. flat_among keys_in vs ws s (text k) (f k i))
    (λ k w e. more (fields k vs) (fields k ws) w (g k w e) (flat_among (field_in k) vs ws s))

pub left : (vs ws : List Value) (v : Value) → IsReached vs v → IsReached (vs ++ ws) v
left vs ws v h = more vs (vs ++ ws) v h (λ x m. Contains-append_left vs ws x m)

pub right : (vs ws : List Value) (v : Value) → IsReached ws v → IsReached (vs ++ ws) v
right vs ws v h = more ws (vs ++ ws) v h (λ x m. Contains-append_right vs ws x m)

-- ---- lists of values that are reached

same_list : (vs : List Value) → list_of (items_of vs) ≡ vs
same_list [] = refl
same_list (v ∷ vs) = ap (λ (ws : List Value). v ∷ ws) (same_list vs)

pub listed_among : (us : List Value) → AreAmong us (items (one_list us))
listed_among us x m =
    Contains-append_left (list_of (items_of us)) [] x (subst (λ (ws : List Value). Contains ws x) (sym (same_list us)) m)

pub listed_reached : (us vs : List Value) → ((v : Value) → Contains vs v → IsReached us v) → IsReached (one_list us) (list (items_of vs))
listed_reached us vs h =
    of_list (λ v i. more us (items (one_list us)) v (h v (subst (λ (ws : List Value). Contains ws v) (same_list vs) i)) (listed_among us))

-- a list of some items of a list
pub some_items : (vs : List Value) (is js : Items) → IsReached vs (list is) → AreAmong (list_of js) (list_of is) → IsReached vs (list js)
some_items vs is js h s = of_list (λ v i. list_items vs is h v (s v i))

pub some_listed : (vs : List Value) (is : Items) (ws : List Value) → IsReached vs (list is) → AreAmong ws (list_of is)
    → IsReached vs (list (items_of ws))
some_listed vs is ws h s =
    some_items vs is (items_of ws) h (λ v i. s v (subst (λ (us : List Value). Contains us v) (same_list ws) i))
