-- Items in chunks.
use Rattle.std.specs.Prelude.{◌≡◌, ◌≤◌, List, [], ◌∷◌, ◌++◌, length}
use Rattle.std.specs.List.{AllByRecursion}

-- the items of all chunks, one chunk after the other
abbrev pub joined : {A : Type 0} → List (List A) → List A
joined [] = []
joined (xs ∷ xss) = xs ++ joined xss

-- each chunk has 256 items
abbrev pub AreFull : {A : Type 0} → List (List A) → Type 0
AreFull xss = AllByRecursion (λ xs. length xs ≡ 256) xss

-- full chunks, at most 2^50
pub record AreChunks {A : Type 0} (xss : List (List A)) : Type 0 where
  pub full : AreFull xss
  pub few : length xss ≤ 1125899906842624
