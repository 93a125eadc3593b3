-- Hex digits.
use Rattle.std.specs.Prelude.{ℕ, Bool, ◌&&◌, ◌||◌, List, nat_le}
use Rattle.std.specs.List.{list_all}

-- whether the byte is a lower-case hex digit
abbrev pub is_hex_digit : ℕ → Bool
is_hex_digit b = (nat_le 48 b && nat_le b 57) || (nat_le 97 b && nat_le b 102)

-- whether each byte is a hex digit
abbrev pub all_hex_digits : List ℕ → Bool
all_hex_digits = list_all is_hex_digit
