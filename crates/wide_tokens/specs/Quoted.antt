-- Names in back quotes.
use Rattle.std.specs.Prelude.{ℕ, ◌+◌, List, [], ◌∷◌, take, drop, Bool, false, if◌then◌else◌, ◌==◌, ◌&&◌, ◌||◌, get_or, nat_lt, Option, Some, None}
use Rattle.std.specs.List.{list_all}
use Rattle.cel_tokens.specs.Bytes.{is_name_byte, run}

-- a byte of a name in back quotes: a letter, a digit, _ . - / or a space
abbrev pub is_quoted_byte : ℕ → Bool
is_quoted_byte b = is_name_byte b || ((b == 46) || ((b == 45) || ((b == 47) || (b == 32))))

-- one or more such bytes
abbrev pub is_quoted_name : List ℕ → Bool
is_quoted_name [] = false
is_quoted_name (b ∷ bs) = list_all is_quoted_byte (b ∷ bs)

-- the number of bytes between a back quote at the front and the next one (96), if they are a name
abbrev pub quoted_at : List ℕ → Option ℕ
quoted_at [] = None
quoted_at (b ∷ bs) =
    if (b == 96) && (nat_lt 0 (run is_quoted_byte bs) && (get_or bs (run is_quoted_byte bs) 0 == 96)) then Some (run is_quoted_byte bs)
    else None
