-- Durations (Go, time.ParseDuration): numbers with units, in nanoseconds.
use Rattle.std.specs.Prelude.{ℕ, zero, suc, ◌+◌, ◌*◌, ◌/◌, ◌^◌, ℤ, pos, neg_ℤ, List, [], ◌∷◌, length, take, drop, Bool}
use Rattle.std.specs.Prelude.{not, ◌&&◌, ◌||◌, ◌==◌, nat_le, nat_lt, Option, Some, None, Result, Ok, Err, if◌then◌else◌}
use Rattle.std.specs.Prelude.{bytes_eq, codes}
use Rattle.std.specs.Char.{is_ascii_digit}
use Rattle.std.specs.List.{prefix_len}
use Rattle.std.specs.Str.Parse.{starts_with_minus, without_leading_sign}
use Rattle.text_numbers.specs.Numbers.{Written, number, written}
use Rattle.durations.specs.declared.duration_error.DurationError.{DurationError}
use Rattle.durations.specs.declared.duration_error.DurationError.TheVariants.{Invalid, TooFine}
use Rattle.durations.specs.declared.time_unit.TimeUnit.{TimeUnit}
use Rattle.durations.specs.declared.time_unit.TimeUnit.TheVariants.{Hour, Minute, Second, Millisecond, Microsecond, Nanosecond}

-- the nanoseconds of a unit
abbrev pub nanoseconds : TimeUnit → ℕ
nanoseconds Hour = 3600000000000
nanoseconds Minute = 60000000000
nanoseconds Second = 1000000000
nanoseconds Millisecond = 1000000
nanoseconds Microsecond = 1000
nanoseconds Nanosecond = 1

-- the places after the point that are read exactly
abbrev pub places : TimeUnit → ℕ
places Hour = 11
places Minute = 10
places Second = 9
places Millisecond = 6
places Microsecond = 3
places Nanosecond = 0

-- the units; a microsecond also with the micro sign (U+00B5) and the Greek letter (U+03BC)
unfoldable pub unit_named : List ℕ → Option TimeUnit
unit_named s =
    if bytes_eq s (codes "h") then Some Hour
    else (if bytes_eq s (codes "m") then Some Minute
    else (if bytes_eq s (codes "s") then Some Second
    else (if bytes_eq s (codes "ms") then Some Millisecond
    else (if bytes_eq s (codes "us") then Some Microsecond
    else (if bytes_eq s (0xc2 ∷ 0xb5 ∷ 115 ∷ []) then Some Microsecond
    else (if bytes_eq s (0xce ∷ 0xbc ∷ 115 ∷ []) then Some Microsecond
    else (if bytes_eq s (codes "ns") then Some Nanosecond
    else None)))))))

-- a unit ends before a digit or a point
abbrev pub is_unit_byte : ℕ → Bool
is_unit_byte b = not (is_ascii_digit b || b == 46)

abbrev pub unit_len : List ℕ → ℕ
unit_len text = prefix_len is_unit_byte text

-- n, if it is at most 2^63
abbrev pub limited : ℕ → Result ℕ DurationError
limited n = if nat_le n (2 ^ 63) then Ok n else Err Invalid

-- what follows from a result
abbrev pub and_then : {X Y : Type 0} → Result X DurationError → (X → Result Y DurationError) → Result Y DurationError
and_then (Ok x) f = f x
and_then (Err e) f = Err e

-- the nanoseconds of a number in a unit
abbrev pub exact : Written → TimeUnit → ℕ
exact s unit = number s.whole * nanoseconds unit + number s.fraction * nanoseconds unit / 10 ^ length s.fraction

abbrev pub in_unit : Written → TimeUnit → Result ℕ DurationError
in_unit s unit = if nat_lt (places unit) (length s.fraction) then Err TooFine else limited (exact s unit)

-- whether a number has a digit, before or after the point
abbrev pub has_digit : Written → Bool
has_digit s = not ((length s.whole == 0) && (length s.fraction == 0))

-- a number needs a digit and a unit
abbrev pub with_unit : Written → Option TimeUnit → Result ℕ DurationError
with_unit s None = Err Invalid
with_unit s (Some unit) = if has_digit s then in_unit s unit else Err Invalid

-- the nanoseconds of the number at the front
abbrev pub first_number : Written → Result ℕ DurationError
first_number s = with_unit s (unit_named (take (unit_len s.rest) s.rest))

-- the text after the first number and its unit
abbrev pub after_number : Written → List ℕ
after_number s = drop (unit_len s.rest) s.rest

-- a sum and one more size, if that is one
abbrev pub total : ℕ → Result ℕ DurationError → Result ℕ DurationError
total d size = and_then size (λ v. limited (d + v))

-- a sum and the number at the front
unfoldable pub next : ℕ → Written → Result ℕ DurationError
next d s = total d (first_number s)

-- the sum of at most n numbers, after a sum of d
unfoldable pub sum_after : ℕ → ℕ → List ℕ → Result ℕ DurationError
sum_after n d [] = Ok d
sum_after zero d (b ∷ text) = Err Invalid
sum_after (suc n) d (b ∷ text) =
    and_then (next d (written (b ∷ text))) (λ e. sum_after n e (after_number (written (b ∷ text))))

-- the sum with the sign; 2^63 only with a minus
abbrev pub signed : Bool → ℕ → Result ℤ DurationError
signed minus n = if minus then Ok (neg_ℤ (pos n)) else (if nat_lt n (2 ^ 63) then Ok (pos n) else Err Invalid)

-- 0 alone, or numbers with units
abbrev pub unsigned_duration : List ℕ → Result ℕ DurationError
unsigned_duration text =
    if bytes_eq text (codes "0") then Ok 0
    else (if length text == 0 then Err Invalid else sum_after (length text) 0 text)

-- `duration(text)` in nanoseconds
unfoldable pub duration_of : List ℕ → Result ℤ DurationError
duration_of text = and_then (unsigned_duration (without_leading_sign text)) (signed (starts_with_minus text))
