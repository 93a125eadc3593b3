-- The place of a key among keys in byte order.
use Rattle.std.specs.Prelude.{◌≡◌, ℕ, ◌≤◌, ◌<◌, suc, List, [], ◌∷◌, length, Option, Some, None, slice_get, slice_index_or, Result, Ok, Err}
use Rattle.std.specs.Prelude.{bytes_eq, if◌then◌else◌, option_map}
use Rattle.std.specs.declared.cmp.Ordering.TheVariants.{Less, Greater}
use Rattle.std.specs.Ordering.{nat_cmp}
use Rattle.std.specs.Cmp.Lexicographic.{slice_cmp}

pub record IsKeyAt (keys : List (List ℕ)) (key : List ℕ) (i : ℕ) : Type 0 where
  pub inside : i < length keys
  pub is : slice_get keys i ≡ Some key

-- the keys before i are less than the key, and those from i on are greater
pub record IsInsertionPlace (keys : List (List ℕ)) (key : List ℕ) (i : ℕ) : Type 0 where
  pub inside : i ≤ length keys
  pub before : (j : ℕ) (d : List ℕ) → j < i → slice_cmp nat_cmp key (slice_index_or keys j d) ≡ Greater
  pub behind : (j : ℕ) (d : List ℕ) → i ≤ j → j < length keys → slice_cmp nat_cmp key (slice_index_or keys j d) ≡ Less

-- the place of a key, or the place where it belongs
abbrev pub SearchAnswer : List (List ℕ) → List ℕ → Result ℕ ℕ → Type 0
SearchAnswer keys key (Ok i) = IsKeyAt keys key i
SearchAnswer keys key (Err i) = IsInsertionPlace keys key i

abbrev pub place_among : List ℕ → List (List ℕ) → Option ℕ
place_among key [] = None
place_among key (k ∷ ks) = if bytes_eq k key then Some 0 else option_map suc (place_among key ks)
