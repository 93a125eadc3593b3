-- The texts that code uses: each once, in order of first use, joined to the constants of an image.
use Rattle.std.specs.Prelude.{ℕ, ◌+◌, List, [], ◌∷◌, ◌++◌, length, fold, Option, Some, None, option_map, if◌then◌else◌, bytes_eq}
use Rattle.std.specs.List.{list_any}

-- the texts with one more at the end, unless it is already among them
abbrev pub with_text : List (List ℕ) → List ℕ → List (List ℕ)
with_text texts t = if list_any (bytes_eq t) texts then texts else texts ++ t ∷ []

-- the texts after each of these was used in turn
abbrev pub with_texts : List (List ℕ) → List (List ℕ) → List (List ℕ)
with_texts texts used = fold with_text texts used

-- the bytes of all texts
abbrev pub joined : List (List ℕ) → List ℕ
joined [] = []
joined (t ∷ more) = t ++ joined more

-- the place of a text among these bytes
abbrev pub place_of : List ℕ → List (List ℕ) → Option ℕ
place_of t [] = None
place_of t (s ∷ more) = if bytes_eq t s then Some 0 else option_map (λ n. length s + n) (place_of t more)
