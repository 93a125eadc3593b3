-- Items of lists, each in a row, which may have grown since its length was stored.
use Rattle.std.specs.Prelude.{◌≡◌, ◌≤◌, ◌<◌, ℕ, List, [], ◌∷◌, ◌++◌, length, take, drop, slice_index_or}

-- the first n items of row b
abbrev pub refs_at : List (List ℕ) → ℕ → ℕ → List ℕ
refs_at lists b n = take n (slice_index_or lists b [])

-- a list with one more element at a place
abbrev pub with_one : {A : Type 0} → ℕ → A → List A → List A
with_one at x xs = take at xs ++ x ∷ drop at xs

-- row b has exactly these n items
pub record HoldsItems (lists : List (List ℕ)) (b n : ℕ) (rs : List ℕ) : Type 0 where
  pub inside : b < length lists
  pub long : length (slice_index_or lists b []) ≡ n
  pub items : refs_at lists b n ≡ rs

-- the lists have grown: the first items of each row are those of the old one
pub record ExtendsLists (old new : List (List ℕ)) : Type 0 where
  pub lists : length old ≤ length new
  pub items : (b : ℕ) → b < length old → (rest : List ℕ) × (slice_index_or new b [] ≡ slice_index_or old b [] ++ rest)
