-- Suffixes of quantities (Kubernetes, apimachinery, pkg/api/resource/suffix.go): powers of 1000, 1024 or 10.
use Rattle.std.specs.Prelude.{ℕ, ◌%◌, ◌-◌, ◌^◌, ℤ, pos, negsuc, neg_ℤ, List, [], ◌∷◌, length, Bool, ◌&&◌, ◌||◌, ◌==◌}
use Rattle.std.specs.Prelude.{nat_le, nat_lt, not, Option, Some, None, option_map, if◌then◌else◌, bytes_eq, codes}
use Rattle.std.specs.Option.{option_or}
use Rattle.std.specs.Str.Parse.{starts_with_minus, without_leading_sign}
use Rattle.text_numbers.specs.Numbers.{digits_len, number}
use Rattle.quantities.specs.declared.unit.Unit.{Unit}
use Rattle.quantities.specs.declared.unit.Unit.TheVariants.{Binary, Decimal}

-- none, or a power of 1000
unfoldable pub decimal_of : List ℕ → Option Unit
decimal_of s =
    if bytes_eq s [] then Some (Decimal (pos 0))
    else (if bytes_eq s (codes "n") then Some (Decimal (negsuc 8))
    else (if bytes_eq s (codes "u") then Some (Decimal (negsuc 5))
    else (if bytes_eq s (codes "m") then Some (Decimal (negsuc 2))
    else (if bytes_eq s (codes "k") then Some (Decimal (pos 3))
    else (if bytes_eq s (codes "M") then Some (Decimal (pos 6))
    else (if bytes_eq s (codes "G") then Some (Decimal (pos 9))
    else (if bytes_eq s (codes "T") then Some (Decimal (pos 12))
    else (if bytes_eq s (codes "P") then Some (Decimal (pos 15))
    else (if bytes_eq s (codes "E") then Some (Decimal (pos 18))
    else None)))))))))

-- a power of 1024
unfoldable pub binary_of : List ℕ → Option Unit
binary_of s =
    if bytes_eq s (codes "Ki") then Some (Binary 10)
    else (if bytes_eq s (codes "Mi") then Some (Binary 20)
    else (if bytes_eq s (codes "Gi") then Some (Binary 30)
    else (if bytes_eq s (codes "Ti") then Some (Binary 40)
    else (if bytes_eq s (codes "Pi") then Some (Binary 50)
    else (if bytes_eq s (codes "Ei") then Some (Binary 60)
    else None)))))

-- whether a number of this size and sign is a signed 64-bit integer
abbrev pub fits64 : Bool → ℕ → Bool
fits64 minus n = if minus then nat_le n (2 ^ 63) else nat_lt n (2 ^ 63)

-- the signed 32-bit integer with the low 32 bits of a number of this size and sign (Go, conversion to int32)
abbrev pub low32 : Bool → ℕ → ℤ
low32 minus n =
    if minus
    then (if nat_le (n % 2 ^ 32) (2 ^ 31) then neg_ℤ (pos (n % 2 ^ 32)) else pos (2 ^ 32 - n % 2 ^ 32))
    else (if nat_lt (n % 2 ^ 32) (2 ^ 31) then pos (n % 2 ^ 32) else neg_ℤ (pos (2 ^ 32 - n % 2 ^ 32)))

-- whether a text is decimal digits, at least one
abbrev pub is_numeral : List ℕ → Bool
is_numeral digits = not (length digits == 0) && (digits_len digits == length digits)

-- the exponent of a number of this size and sign: it has to fit 64 bits, but only its low 32 bits count
unfoldable pub exponent_in : Bool → ℕ → Option ℤ
exponent_in minus n = if fits64 minus n then Some (low32 minus n) else None

-- the exponent after e or E
abbrev pub exponent_of : List ℕ → Option ℤ
exponent_of text =
    if is_numeral (without_leading_sign text) then exponent_in (starts_with_minus text) (number (without_leading_sign text)) else None

-- e (101) or E (69) and an exponent
abbrev pub exponential_of : List ℕ → Option Unit
exponential_of [] = None
exponential_of (b ∷ text) = if (b == 101) || (b == 69) then option_map Decimal (exponent_of text) else None

-- the unit of a suffix
abbrev pub unit_of : List ℕ → Option Unit
unit_of s = option_or (decimal_of s) (option_or (binary_of s) (exponential_of s))
