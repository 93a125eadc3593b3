-- Ints, unsigned ints and doubles as they are written (cel-spec, INT_LIT, UINT_LIT and FLOAT_LIT).
use Rattle.std.specs.Prelude.{ℕ, ◌+◌, ◌^◌, List, [], ◌∷◌, drop, Bool, true, false, if◌then◌else◌, ◌==◌, ◌&&◌, ◌||◌, nat_lt, Option, Some, None}
use Rattle.cel_tokens.specs.Bytes.{is_digit_of, run}
use Rattle.cel_tokens.specs.Ints.{digit_begins, int_at}
use Rattle.wide_tokens.specs.declared.number.Number.{Number, TheVariants.Int, TheVariants.Uint, TheVariants.Double}

-- the number of decimal digits at the front
abbrev pub whole_len : List ℕ → ℕ
whole_len bytes = run (is_digit_of 10) bytes

-- the length of a dot (46) and the digits after it, or 0
abbrev pub fraction_len : List ℕ → ℕ
fraction_len [] = 0
fraction_len (b ∷ bs) = if (b == 46) && digit_begins bs then whole_len bs + 1 else 0

-- the length of a plus (43) or a minus (45), or 0
abbrev pub sign_len : List ℕ → ℕ
sign_len [] = 0
sign_len (b ∷ bs) = if (b == 43) || (b == 45) then 1 else 0

-- the length of the digits after a sign of this length, with the sign and the letter before it, or 0
abbrev pub power_len : ℕ → List ℕ → ℕ
power_len sign digits = if digit_begins digits then whole_len digits + sign + 1 else 0

-- the length of an e (101) or E (69), a sign if there is one, and the digits after it, or 0
abbrev pub exponent_len : List ℕ → ℕ
exponent_len [] = 0
exponent_len (b ∷ bs) = if (b == 101) || (b == 69) then power_len (sign_len bs) (drop (sign_len bs) bs) else 0

-- the length of a double with parts of these lengths; 0 without a fraction if it has no digits or no exponent
abbrev pub joined_len : ℕ → ℕ → ℕ → ℕ
joined_len whole fraction exponent =
    if (fraction == 0) && ((whole == 0) || (exponent == 0)) then 0 else whole + fraction + exponent

-- the length of the double whose parts before the exponent have these lengths
abbrev pub with_exponent : ℕ → ℕ → List ℕ → ℕ
with_exponent whole fraction rest = joined_len whole fraction (exponent_len (drop fraction rest))

-- the length of the double at the front, or 0
abbrev pub double_len : List ℕ → ℕ
double_len bytes = with_exponent (whole_len bytes) (fraction_len (drop (whole_len bytes) bytes)) (drop (whole_len bytes) bytes)

-- whether u (117) or U (85) is at the front
abbrev pub suffix_begins : List ℕ → Bool
suffix_begins [] = false
suffix_begins (b ∷ bs) = (b == 117) || (b == 85)

-- the int at the front, or the unsigned one, with its length
abbrev pub integral_at : List ℕ → Number × ℕ
integral_at bytes =
    if suffix_begins (drop (int_at bytes).0 bytes) then (Uint, (int_at bytes).0 + 1) else (Int, (int_at bytes).0)

-- the number at the front, if one begins there, with its length
abbrev pub number_at : List ℕ → Option (Number × ℕ)
number_at bytes =
    if nat_lt 0 (double_len bytes) then Some (Double, double_len bytes)
    else (if digit_begins bytes then Some (integral_at bytes) else None)

-- the unsigned int with this value, if it fits 64 bits
abbrev pub uint_of : ℕ → Option ℕ
uint_of n = if nat_lt n (2 ^ 64) then Some n else None
