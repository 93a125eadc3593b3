-- The lines of a text.
use Rattle.std.specs.Prelude.{ℕ, List, [], ◌∷◌, if◌then◌else◌, ◌==◌}

-- a byte prepended to the first line
abbrev pub before_line : ℕ → List (List ℕ) → List (List ℕ)
before_line x [] = (x ∷ []) ∷ []
before_line x (line ∷ lines) = (x ∷ line) ∷ lines

-- The text is split at its line feeds. The last line may lack a line feed, and
-- there is no empty line after the last one.
abbrev pub lines_of : List ℕ → List (List ℕ)
lines_of [] = []
lines_of (x ∷ xs) = if x == 10 then [] ∷ lines_of xs else before_line x (lines_of xs)
