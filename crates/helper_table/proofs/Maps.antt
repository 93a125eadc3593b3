-- Lookup of a key in the value at a reference.
use Rattle.helper_table.proofs.Prelude.{◌≡◌, ℕ, List, Option, Some, None, true, ap, ◌∙◌, arith, ◌<◌, length, [], subst, option_map, option_and_then, is_some, IsSome, find_place, has_key_place, entries_at, part_at, key_at, find, place_of_key, Entries, ValueOrError, null, text, list, map, value, list_of, keys_of, value_under, slice_get-get_or, outcome_view, sees_list, sees_map, count_by-le-length, code_points_of}

pub finds : (key : List ℕ) (es : Option Entries) → is_some es ≡ true → IsSome (option_map (place_of_key key) es)
finds key es e = grind arith

there : (key : List ℕ) (i : ℕ) (m : Option Entries) → Some i ≡ option_and_then (place_of_key key) m → is_some (option_and_then (find key) m) ≡ true
there key i m f = grind (arith, has_key_place)

pub part_is_value : (o : Option ValueOrError) (key : List ℕ) (i : ℕ) → Some i ≡ option_and_then (place_of_key key) (entries_at o) → part_at o i ≡ value_under o key
part_is_value o key i f = grind (arith, find_place)

pub part_is_there : (o : Option ValueOrError) (key : List ℕ) (i : ℕ) → Some i ≡ option_and_then (place_of_key key) (entries_at o) → is_some (part_at o i) ≡ true
part_is_there o key i f = ap is_some (part_is_value o key i f) ∙ there key i (entries_at o) f

pub no_value : (key : List ℕ) (m : Option Entries) → None ≡ option_and_then (place_of_key key) m → option_and_then (find key) m ≡ None
no_value key m f = grind (arith, find_place)

-- ---- items and keys by their positions

module _ (i n : ℕ) where
  pub item_there : (o : Option ValueOrError) → option_map outcome_view o ≡ Some (sees_list n) → i < n → is_some (part_at o i) ≡ true
  item_there (Some (value (list is))) e h =
      let known : n ≡ length (list_of is) = cc in
      ap is_some (slice_get-get_or (list_of is) i null (subst (λ m. i < m) known h))
  item_there _ e h = absurd (cc)

  pub key_there : (o : Option ValueOrError) → option_map outcome_view o ≡ Some (sees_map n) → i < n → is_some (key_at o i) ≡ true
  key_there (Some (value (map es))) e h =
      let known : n ≡ length (keys_of es) = cc in
      ap (λ k. is_some (option_map text k)) (slice_get-get_or (keys_of es) i [] (subst (λ m. i < m) known h))
  key_there _ e h = absurd (cc)

pub few_code_points : (s : List ℕ) (n : ℕ) → length s < n → code_points_of s < n
few_code_points s n h = grind (arith, count_by-le-length)
