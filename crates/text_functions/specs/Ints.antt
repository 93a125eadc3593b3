-- Ints in texts (cel-spec, conversion of string to int; Go, strconv.ParseInt in base 10).
use Rattle.std.specs.Prelude.{ℕ, ◌^◌, ℤ, pos, negsuc, List, length, Bool, ◌&&◌, nat_lt, Option, Some, None, if◌then◌else◌}
use Rattle.std.specs.Str.{all_ascii_digits}
use Rattle.std.specs.Str.Parse.{signed_digits_value, without_leading_sign}

-- whether the bytes are decimal digits, at least one
abbrev pub is_numeral : List ℕ → Bool
is_numeral digits = nat_lt 0 (length digits) && all_ascii_digits digits

-- whether a number is a signed 64-bit integer
abbrev pub fits64 : ℤ → Bool
fits64 (pos n) = nat_lt n (2 ^ 63)
fits64 (negsuc n) = nat_lt n (2 ^ 63)

-- the number, if it is a signed 64-bit integer
abbrev pub int64 : ℤ → Option ℤ
int64 z = if fits64 z then Some z else None

-- the int that a text spells: +, - or no sign, and decimal digits
unfoldable pub int_of : List ℕ → Option ℤ
int_of text = if is_numeral (without_leading_sign text) then int64 (signed_digits_value 10 text) else None
