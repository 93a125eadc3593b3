-- Ints, in decimal digits or in hex digits after 0x.
use Rattle.std.specs.Prelude.{ℕ, ◌+◌, ◌*◌, ◌^◌, ℤ, pos, negsuc, neg_ℤ, List, [], ◌∷◌, take, drop, Bool, false, if◌then◌else◌, ◌==◌, ◌&&◌}
use Rattle.std.specs.Prelude.{nat_lt, Option, Some, None}
use Rattle.std.specs.Char.{digit_value}
use Rattle.cel_tokens.specs.Bytes.{is_digit_of, run}

-- the number that digits denote in this base, after digits that denote n
unfoldable pub number_from : ℕ → ℕ → List ℕ → ℕ
number_from base n [] = n
number_from base n (d ∷ ds) = number_from base (n * base + digit_value d) ds

-- the number that digits denote in this base, the most significant first
abbrev pub number : ℕ → List ℕ → ℕ
number base digits = number_from base 0 digits

-- whether a digit in this base is at the front
abbrev pub digit_begins_in : ℕ → List ℕ → Bool
digit_begins_in base [] = false
digit_begins_in base (b ∷ bs) = is_digit_of base b

-- whether a decimal digit is at the front
abbrev pub digit_begins : List ℕ → Bool
digit_begins bytes = digit_begins_in 10 bytes

-- whether 0x and a hex digit are at the front
abbrev pub hex_begins : List ℕ → Bool
hex_begins [] = false
hex_begins (a ∷ []) = false
hex_begins (a ∷ b ∷ []) = false
hex_begins (a ∷ b ∷ c ∷ bs) = (a == 48) && ((b == 120) && is_digit_of 16 c)

-- the number of digits in this base at the front, and the number that they denote
abbrev pub spelled : ℕ → List ℕ → ℕ × ℕ
spelled base bytes = (run (is_digit_of base) bytes, number base (take (run (is_digit_of base) bytes) bytes))

-- the length of the int at the front, and its value without the sign
abbrev pub int_at : List ℕ → ℕ × ℕ
int_at bytes =
    if hex_begins bytes then ((spelled 16 (drop 2 bytes)).0 + 2, (spelled 16 (drop 2 bytes)).1) else spelled 10 bytes

-- whether a number is a signed 64-bit integer
abbrev pub fits64 : ℤ → Bool
fits64 (pos n) = nat_lt n (2 ^ 63)
fits64 (negsuc n) = nat_lt n (2 ^ 63)

-- the int with this absolute value, negated after a minus
abbrev pub with_sign : Bool → ℕ → ℤ
with_sign minus n = if minus then neg_ℤ (pos n) else pos n

-- the int with this absolute value and sign, if it fits 64 bits
abbrev pub int_of : Bool → ℕ → Option ℤ
int_of minus n = if fits64 (with_sign minus n) then Some (with_sign minus n) else None
