-- Searching a key in a map.
use Rattle.value_table.proofs.Prelude.{◌≡◌, ℕ, zero, suc, ◌<◌, List, [], ◌∷◌, inl, inr, length, get_or, Some, None, slice_get, false, true≢false, refl, sym, ap, ◌∙◌, subst, arith, bytes_eq, if◌then◌else◌, option_map, Less, nat_cmp, is_eq, slice_cmp, cases_lt, cond-false, cond-true, false_from_ne_true, is_eq-slice_cmp, bytes_eq-Decides, same_Some, get_or_from_slice_get, Ascend, IsOrdered, Value, Entries, no_entries, entry, keys_of, entries_part, place_of_key, value_in, entries_at, refs_at, keys_at, meaning, IsContent, CellFound, texts_of, Cell, Backings, IsKeyAt, IsInsertionPlace, place_among}
use Rattle.std.specs.List.Sorted.{IsStrictlySortedBy}
use Rattle.value_store.specs.Value.{map}
use Rattle.value_table.specs.declared.content.Content.TheVariants as cell
use Rattle.value_table.proofs.Searches.{ascend_at}
use Rattle.value_table.proofs.Heads.{map_keys}

pub place_by_keys : (key : List ℕ) (es : Entries) → place_of_key key es ≡ place_among key (keys_of es)
place_by_keys key no_entries = refl
place_by_keys key (entry k v es) = ap (λ p. if bytes_eq k key then Some 0 else option_map suc p) (place_by_keys key es)

-- ---- keys that differ

unequal : (a b : List ℕ) → (a ≡ b → ⊥) → bytes_eq a b ≡ false
unequal a b f = false_from_ne_true _ (λ e. f ((bytes_eq-Decides a b).0 e))

ordered_apart : (a b : List ℕ) → is_eq (slice_cmp nat_cmp a b) ≡ false → a ≡ b → ⊥
ordered_apart a b e s = true≢false (sym ((bytes_eq-Decides a b).1 s) ∙ sym (is_eq-slice_cmp a b) ∙ e)

-- ---- a key that is found

at_place : (key : List ℕ) (ks : List (List ℕ)) (i : ℕ) → Ascend ks → i < length ks → slice_get ks i ≡ Some key → place_among key ks ≡ Some i
unfolding IsStrictlySortedBy
at_place key [] i a h e = absurd (omega arith)
at_place key (k ∷ ks) zero a h e = cond-true (bytes_eq k key) _ _ ((bytes_eq-Decides k key).1 (same_Some _ _ e))
at_place key (k ∷ ks) (suc i) a h e =
    let here = get_or_from_slice_get (k ∷ ks) (suc i) key [] e in
    let below = ascend_at (k ∷ ks) 0 (suc i) [] [] a (omega arith) h in
    let less : slice_cmp nat_cmp k key ≡ Less = ap (slice_cmp nat_cmp k) (sym here) ∙ below in
    cond-false (bytes_eq k key) _ _ (unequal k key (ordered_apart k key (ap is_eq less))) ∙ ap (option_map suc) (at_place key ks i a.1 (omega arith) e)

pub found_place : (key : List ℕ) (ks : List (List ℕ)) (i : ℕ) → Ascend ks → IsKeyAt ks key i → place_among key ks ≡ Some i
found_place key ks i a h = at_place key ks i a h.inside h.is

-- ---- a key that is missing

no_place : (key : List ℕ) (ks : List (List ℕ)) → ((j : ℕ) (d : List ℕ) → j < length ks → is_eq (slice_cmp nat_cmp key (get_or ks j d)) ≡ false) → place_among key ks ≡ None
no_place key [] f = refl
no_place key (k ∷ ks) f =
    let apart = λ (s : k ≡ key). ordered_apart key k (f 0 [] (omega arith)) (sym s) in
    cond-false (bytes_eq k key) _ _ (unequal k key apart) ∙ ap (option_map suc) (no_place key ks (λ j d h. f (suc j) d (omega arith)))

pub missing_place : (key : List ℕ) (ks : List (List ℕ)) (i : ℕ) → IsInsertionPlace ks key i → place_among key ks ≡ None
missing_place key ks i g = no_place key ks (λ j d h. elim (cases_lt j i) [ inl b ↦ ap is_eq (g.before j d b) | inr b ↦ ap is_eq (g.behind j d b h) ])

-- ---- the map of a cell

pub record MapHere (bs : Backings) (v : Value) (k n : ℕ) : Type 0 where
  pub entries : Entries
  pub is : v ≡ map entries
  pub keys : keys_of entries ≡ texts_of bs.bytes (keys_at bs.keys k n)
  pub ordered : Ascend (texts_of bs.bytes (keys_at bs.keys k n))

pub map_here : (bs : Backings) (vs : List Value) (r : ℕ) (c : Cell) (k b n : ℕ) → CellFound bs vs r c → c.content ≡ cell.Map k b n → MapHere bs (value_in vs r) k n
map_here bs vs r c k b n f e =
    let m = ap (meaning bs vs) e in
    let keys = map_keys bs vs r k b n (subst (IsContent bs r) e f.content) in
    record { entries = entries_at bs.bytes vs (keys_at bs.keys k n) (refs_at bs.lists b n); is = f.is ∙ m; keys = keys; ordered = subst Ascend keys (subst IsOrdered m f.ordered).0 }

pub find_here : (bs : Backings) (v : Value) (k n : ℕ) (key : List ℕ) → MapHere bs v k n
    → option_map (place_of_key key) (entries_part v) ≡ Some (place_among key (texts_of bs.bytes (keys_at bs.keys k n)))
find_here bs v k n key h = ap (λ w. option_map (place_of_key key) (entries_part w)) h.is ∙ ap (λ p. Some p) (place_by_keys key h.entries ∙ ap (place_among key) h.keys)
