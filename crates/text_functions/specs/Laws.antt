-- What splitting and replacing are, in other words: the pieces joined again, and what they lack.
use Rattle.std.specs.Prelude.{◌≡◌, ◌<◌, ℕ, List, [], ◌∷◌, ◌++◌, length, Bool, true, is_none}
use Rattle.std.specs.List.{list_all}
use Rattle.text_functions.specs.Pieces.{pieces, replaced}
use Rattle.text_functions.specs.Places.{first_place}

-- lists in a row, with a separator between each two
abbrev pub joined : List ℕ → List (List ℕ) → List ℕ
joined separator [] = []
joined separator (x ∷ []) = x
joined separator (x ∷ y ∷ xs) = x ++ (separator ++ joined separator (y ∷ xs))

-- the pieces, with the separator between each two, are the code points
abbrev pub PiecesJoin : Type 0
PiecesJoin = (n : ℕ) (separator cs : List ℕ) → joined separator (pieces n separator cs) ≡ cs

-- whether a part is nowhere in code points
abbrev pub is_nowhere : List ℕ → List ℕ → Bool
is_nowhere part cs = is_none (first_place part cs 0)

-- cut at each place, no piece has a separator
abbrev pub PiecesHaveNone : Type 0
PiecesHaveNone = (separator cs : List ℕ) → 0 < length separator → list_all (is_nowhere separator) (pieces (length cs) separator cs) ≡ true

-- code points with a part replaced are the pieces around the part, with the other between each two
abbrev pub ReplacedJoin : Type 0
ReplacedJoin = (n : ℕ) (part other cs : List ℕ) → replaced n part other cs ≡ joined other (pieces n part cs)
