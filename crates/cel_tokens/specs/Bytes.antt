-- The classes of bytes, and the blanks and comments between tokens.
use Rattle.std.specs.Prelude.{ℕ, ◌+◌, List, [], ◌∷◌, Bool, false, if◌then◌else◌, ◌==◌, ◌&&◌, ◌||◌, not, nat_lt}
use Rattle.std.specs.List.{list_all}
use Rattle.std.specs.Char.{is_ascii_digit, is_ascii_alphabetic, digit_value}

-- a byte that may begin a name: a letter or _ (95) (cel-spec, IDENT)
abbrev pub is_letter : ℕ → Bool
is_letter b = is_ascii_alphabetic b || (b == 95)

-- a byte that may continue a name: a letter, _ or a digit (cel-spec, IDENT)
abbrev pub is_name_byte : ℕ → Bool
is_name_byte b = is_letter b || is_ascii_digit b

-- a letter or _, then letters, digits and _ (cel-spec, IDENT)
abbrev pub is_name : List ℕ → Bool
is_name [] = false
is_name (b ∷ bs) = is_letter b && list_all is_name_byte bs

-- a digit in this base; above 9 a letter of either case
abbrev pub is_digit_of : ℕ → ℕ → Bool
is_digit_of base b = nat_lt (digit_value b) base

-- line feed and carriage return
abbrev pub is_line_end : ℕ → Bool
is_line_end b = (b == 10) || (b == 13)

-- space, tab, line feed, form feed and carriage return
abbrev pub is_blank : ℕ → Bool
is_blank b = (b == 32) || ((b == 9) || ((b == 12) || is_line_end b))

-- the length of the longest prefix of bytes that pass
unfoldable pub run : (ℕ → Bool) → List ℕ → ℕ
run p [] = 0
run p (b ∷ bs) = if p b then run p bs + 1 else 0

-- whether two slashes are at the front
abbrev pub opens_comment : List ℕ → Bool
opens_comment [] = false
opens_comment (a ∷ []) = false
opens_comment (a ∷ b ∷ bs) = (a == 47) && (b == 47)

-- whether the byte at the front is a blank or part of a comment
abbrev pub is_between : Bool → ℕ → List ℕ → Bool
is_between in_comment b bytes = in_comment || (is_blank b || opens_comment bytes)

-- whether the byte after such a byte is still in a comment: a comment ends with its line
abbrev pub stays_in_comment : Bool → ℕ → Bool
stays_in_comment in_comment b = if in_comment then not (is_line_end b) else not (is_blank b)

-- the number of bytes of blanks and comments at the front
unfoldable pub between : Bool → List ℕ → ℕ
between in_comment [] = 0
between in_comment (b ∷ bs) =
    if is_between in_comment b (b ∷ bs) then between (stays_in_comment in_comment b) bs + 1 else 0
