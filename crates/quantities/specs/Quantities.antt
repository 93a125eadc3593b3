-- Quantities (Kubernetes, apimachinery, pkg/api/resource, ParseQuantity; apiserver, pkg/cel/library/quantity.go).
use Rattle.std.specs.Prelude.{ℕ, suc, ◌+◌, ◌-◌, ◌*◌, ◌/◌, ◌^◌, min, max, ℤ, pos, negsuc, neg_ℤ, ◌+ℤ◌, ◌-ℤ◌, int_le}
use Rattle.std.specs.Prelude.{int_lt, List, ◌++◌, length}
use Rattle.std.specs.Prelude.{Bool, not, ◌&&◌, ◌||◌, ◌==◌, nat_le, nat_lt, Option, Some, None, option_and_then}
use Rattle.std.specs.Prelude.{option_map, Result, Ok, Err, if◌then◌else◌}
use Rattle.std.specs.Int.{div_ceil}
use Rattle.std.specs.List.{prefix_len}
use Rattle.std.specs.Option.{is_some}
use Rattle.std.specs.Str.Parse.{starts_with_minus, without_leading_sign}
use Rattle.std.specs.declared.cmp.Ordering.{Ordering}
use Rattle.std.specs.declared.cmp.Ordering.TheVariants.{Equal, Greater, Less}
use Rattle.text_numbers.specs.Numbers.{Written, number, written}
use Rattle.quantities.specs.Suffixes.{unit_of}
use Rattle.quantities.specs.declared.amount.Quantity.{Quantity}
use Rattle.quantities.specs.declared.quantity_error.QuantityError.{QuantityError}
use Rattle.quantities.specs.declared.quantity_error.QuantityError.TheVariants.{NotAQuantity, TooLarge}
use Rattle.quantities.specs.declared.spelled.Spelled.{Spelled as CodeSpelled}
use Rattle.quantities.specs.declared.unit.Unit.{Unit}
use Rattle.quantities.specs.declared.unit.Unit.TheVariants.{Binary, Decimal}

-- the parts of a quantity in a text
pub record Spelled : Type 0 where
  pub minus : Bool
  pub whole : List ℕ
  pub fraction : List ℕ
  pub unit : Unit

abbrev pub spelled_view : CodeSpelled → Spelled
spelled_view s = record { minus = s.minus; whole = s.whole.now; fraction = s.fraction.now; unit = s.unit }

-- a unit is a factor times a power of 10
abbrev pub factor : Unit → ℕ
factor (Decimal e) = 1
factor (Binary bits) = 2 ^ bits

abbrev pub exponent : Unit → ℤ
exponent (Decimal e) = e
exponent (Binary bits) = pos 0

-- the size of the number is the mantissa times 10 to the power of the scale
abbrev pub mantissa : Spelled → ℕ
mantissa s = number (s.whole ++ s.fraction) * factor s.unit

abbrev pub scale : Spelled → ℤ
scale s = exponent s.unit -ℤ pos (length s.fraction)

-- n times a power of 10, rounded up
unfoldable pub scaled : ℕ → ℤ → ℕ
scaled n (pos k) = n * 10 ^ k
scaled n (negsuc k) = div_ceil n (10 ^ suc k)

-- with a binary suffix the size is at most 2^63 - 1, in billionths
abbrev pub capped : Unit → ℕ → ℕ
capped (Decimal e) n = n
capped (Binary bits) n = min n 9223372036854775807000000000

-- the size in billionths: what is finer is rounded up
abbrev pub size : Spelled → ℕ
size s = capped s.unit (scaled (mantissa s) (pos 9 +ℤ scale s))

abbrev pub with_sign : Bool → ℕ → ℤ
with_sign minus n = if minus then neg_ℤ (pos n) else pos n

-- the digits before the point without zeros (48) in front, but at least one
abbrev pub whole_len : List ℕ → ℕ
whole_len whole = max 1 (length whole - prefix_len (λ b. b == 48) whole)

-- whether the API server holds a number as a signed 64-bit integer times a power of 10: with a decimal suffix
abbrev pub is_held_decimal : Spelled → Bool
is_held_decimal s = nat_le (whole_len s.whole + length s.fraction) 18 && int_le (negsuc 8) (scale s)

-- and with a binary suffix for a number of bits, which count as 3 digits for each 10
abbrev pub is_held_binary : ℕ → Spelled → Bool
is_held_binary bits s =
    (length s.fraction == 0) && (nat_le (whole_len s.whole + 3 * bits / 10 + 1) 15 && nat_lt (mantissa s) (2 ^ 63))

abbrev pub is_held_as : Unit → Spelled → Bool
is_held_as (Decimal e) s = is_held_decimal s
is_held_as (Binary bits) s = is_held_binary bits s

abbrev pub is_held : Spelled → Bool
is_held s = is_held_as s.unit s

-- a number without a digit is read only if it is held, as 0
abbrev pub is_number : Spelled → Bool
is_number s = not ((length s.whole == 0) && (length s.fraction == 0)) || is_held s

abbrev pub accepted : Spelled → Option Spelled
accepted s = if is_number s then Some s else None

-- the parts of a text after its sign, with the unit of its suffix
abbrev pub with_unit : Bool → Written → Unit → Option Spelled
with_unit minus n unit = accepted (record { minus = minus; whole = n.whole; fraction = n.fraction; unit = unit })

abbrev pub parts_of : Bool → Written → Option Spelled
parts_of minus n = option_and_then (with_unit minus n) (unit_of n.rest)

-- the quantity that a text spells
unfoldable pub spelled_of : List ℕ → Option Spelled
spelled_of text = if length text == 0 then None else parts_of (starts_with_minus text) (written (without_leading_sign text))

-- `isQuantity(text)`
abbrev pub is_quantity : List ℕ → Bool
is_quantity text = is_some (spelled_of text)

-- `quantity(text)` in billionths
abbrev pub billionths_of : List ℕ → Option ℤ
billionths_of text = option_map (λ s. with_sign s.minus (size s)) (spelled_of text)

-- the quantity with this sign, mantissa and size in billionths, if both have at most 127 bits
unfoldable pub made : Bool → ℕ → ℕ → Result Quantity QuantityError
made minus m n = if nat_lt m (2 ^ 127) && nat_lt n (2 ^ 127) then Ok (record { billionths = with_sign minus n }) else Err TooLarge

abbrev pub quantity_in : Spelled → Result Quantity QuantityError
quantity_in s = made s.minus (mantissa s) (size s)

abbrev pub result_of : Option Spelled → Result Quantity QuantityError
result_of None = Err NotAQuantity
result_of (Some s) = quantity_in s

-- `quantity(text)` within 127 bits
abbrev pub quantity_of : List ℕ → Result Quantity QuantityError
quantity_of text = result_of (spelled_of text)

-- the int of a sign and a size below 2^63
unfoldable pub small_int : Bool → ℕ → Option ℤ
small_int minus n = if nat_lt n (2 ^ 63) then Some (with_sign minus n) else None

-- the int of a sign, a mantissa and a scale, if the scale is at least 0
unfoldable pub int_of : Bool → ℕ → ℤ → Option ℤ
int_of minus n (pos k) = small_int minus (n * 10 ^ k)
int_of minus n (negsuc k) = None

-- `asInteger()` of a quantity: only of one that is held as a signed 64-bit integer times a power of 10
abbrev pub integer_in : Spelled → Option ℤ
integer_in s = if is_held s then int_of s.minus (mantissa s) (scale s) else None

-- `quantity(text).asInteger()`
abbrev pub as_integer_of : List ℕ → Option ℤ
as_integer_of text = option_and_then integer_in (spelled_of text)

-- `quantity(text).isInteger()`
abbrev pub is_integer_of : List ℕ → Option Bool
is_integer_of text = option_map (λ s. is_some (integer_in s)) (spelled_of text)

-- -1, 0 or 1
abbrev pub sign_of : ℤ → ℤ
sign_of (pos n) = if n == 0 then pos 0 else pos 1
sign_of (negsuc n) = negsuc 0

abbrev pub sign_in : Spelled → ℤ
sign_in s = sign_of (with_sign s.minus (size s))

-- `sign(quantity(text))`
abbrev pub sign_of_text : List ℕ → Option ℤ
sign_of_text text = option_map sign_in (spelled_of text)

-- the order of two numbers
abbrev pub order_of : ℤ → ℤ → Ordering
order_of a b = if int_lt a b then Less else (if int_lt b a then Greater else Equal)

-- a sum or a difference, if it fits 128 bits
abbrev pub fits128 : ℤ → Bool
fits128 (pos n) = nat_lt n (2 ^ 127)
fits128 (negsuc n) = nat_lt n (2 ^ 127)

abbrev pub fitting : ℤ → Result Quantity QuantityError
fitting z = if fits128 z then Ok (record { billionths = z }) else Err TooLarge
