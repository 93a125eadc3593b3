-- The number that a text represents, if a `u64` can hold it.
use Rattle.std.specs.Prelude.{ℕ, ◌^◌, ◌&&◌, Bool, true, List, [], ◌∷◌, length, Option, Some, None, nat_lt, if◌then◌else◌}
use Rattle.std.specs.Char.{digit_value}
use Rattle.std.specs.Str.Parse.{digits_value, without_leading_plus}

-- each byte is a decimal digit
abbrev pub are_digits : List ℕ → Bool
are_digits [] = true
are_digits (c ∷ cs) = nat_lt (digit_value c) 10 && are_digits cs

-- at least one decimal digit, with a value that fits
abbrev pub writes_u64 : List ℕ → Bool
writes_u64 t = nat_lt 0 (length t) && (are_digits t && nat_lt (digits_value 10 t) (2 ^ 64))

-- the number that these digits represent
abbrev pub number_written : List ℕ → Option ℕ
number_written t = if writes_u64 t then Some (digits_value 10 t) else None

-- one plus sign may precede the digits
unfoldable pub number_of : Option (List ℕ) → Option ℕ
number_of (Some t) = number_written (without_leading_plus t)
number_of None = None
