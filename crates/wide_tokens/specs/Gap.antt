-- The blanks and comments between tokens. A comment ends at a line feed alone.
use Rattle.std.specs.Prelude.{ℕ, ◌+◌, List, [], ◌∷◌, Bool, false, if◌then◌else◌, ◌==◌, not}
use Rattle.cel_tokens.specs.Bytes.{is_blank, is_between}

-- whether the byte after a byte of a gap is still in a comment, which ends with a line feed (10)
abbrev pub stays_in_comment : Bool → ℕ → Bool
stays_in_comment in_comment b = if in_comment then not (b == 10) else not (is_blank b)

-- the number of bytes of blanks and comments at the front
unfoldable pub between : Bool → List ℕ → ℕ
between in_comment [] = 0
between in_comment (b ∷ bs) =
    if is_between in_comment b (b ∷ bs) then between (stays_in_comment in_comment b) bs + 1 else 0
