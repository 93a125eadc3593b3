-- Numbers of any size in lines.
use Rattle.std.specs.Prelude.{ℕ, List, [], ◌∷◌, codes, nat_eq, if◌then◌else◌, Bool, false, not, ◌&&◌, ◌||◌}
use Rattle.std.specs.Str.{all_ascii_digits, bytes_eq}

-- digits without leading zeros
abbrev pub is_positive : List ℕ → Bool
is_positive [] = false
is_positive (d ∷ ds) = not (nat_eq d 48) && all_ascii_digits (d ∷ ds)

-- decimal digits: a single 0, or digits without leading zeros
abbrev pub is_decimal : List ℕ → Bool
is_decimal digits = bytes_eq digits (codes "0") || is_positive digits

-- whether the text has the form of an immediate
abbrev pub is_immediate : List ℕ → Bool
is_immediate [] = false
is_immediate (c ∷ cs) = if nat_eq c 45 then is_positive cs else is_decimal (c ∷ cs)

-- whether the text has the form of an offset
abbrev pub is_offset : List ℕ → Bool
is_offset [] = false
is_offset (c ∷ cs) = if nat_eq c 45 then is_positive cs else (nat_eq c 43 && is_decimal cs)
