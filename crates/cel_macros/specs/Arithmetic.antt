-- Arithmetic on 64-bit ints, and concatenation (cel-spec, Arithmetic Operators, Overflow).
use Rattle.std.specs.Prelude.{ℤ, pos, negsuc, ◌+ℤ◌, ◌-ℤ◌, ◌*ℤ◌, neg_ℤ, int_div, int_rem, nat_lt, Bool, false, ◌++◌, Option}
use Rattle.std.specs.Prelude.{Some, None, if◌then◌else◌}
use Rattle.std.specs.Option.{option_map_or}
pub use Rattle.cel_tokens.specs.Ints.{fits64 as fits}
use Rattle.value_store.specs.Value.{ValueOrError, error, value, int, text, list, items_join}

-- the int as a result, or the error on overflow
abbrev pub int_or_error : ℤ → ValueOrError
int_or_error z = if fits z then value (int z) else error

-- the int, if the result is one
abbrev pub int_part : ValueOrError → Option ℤ
int_part (value (int z)) = Some z
int_part _ = None

-- f applied to two ints; the error if an operand is not an int
abbrev pub on_ints : (ℤ → ℤ → ValueOrError) → Option ℤ → Option ℤ → ValueOrError
on_ints f (Some a) (Some b) = f a b
on_ints f _ _ = error

-- whether the int is 0
abbrev pub is_zero : ℤ → Bool
is_zero (pos n) = nat_lt n 1
is_zero (negsuc n) = false

-- a / b, rounded toward zero; the error if b is 0, and for the least int by -1, which overflows
abbrev pub quotient : ℤ → ℤ → ValueOrError
quotient a b = if is_zero b then error else int_or_error (int_div a b)

-- a % b, with the sign of a; the error whenever a / b is the error
abbrev pub remainder : ℤ → ℤ → ValueOrError
remainder a b = if is_zero b then error else (if fits (int_div a b) then value (int (int_rem a b)) else error)

-- x + y: the sum of two ints, or the error on overflow; the concatenation of two texts or two lists; the error for
-- all else (cel-spec, Arithmetic Operators, Overflow)
abbrev pub sum_of : ValueOrError → ValueOrError → ValueOrError
sum_of (value (int a)) (value (int b)) = int_or_error (a +ℤ b)
sum_of (value (text a)) (value (text b)) = value (text (a ++ b))
sum_of (value (list a)) (value (list b)) = value (list (items_join a b))
sum_of _ _ = error

-- x - y of two ints; the error if an operand is not an int, or on overflow (cel-spec, Overflow)
abbrev pub difference_of : ValueOrError → ValueOrError → ValueOrError
difference_of x y = on_ints (λ a b. int_or_error (a -ℤ b)) (int_part x) (int_part y)

-- x * y of two ints; the error if an operand is not an int, or on overflow (cel-spec, Overflow)
abbrev pub product_of : ValueOrError → ValueOrError → ValueOrError
product_of x y = on_ints (λ a b. int_or_error (a *ℤ b)) (int_part x) (int_part y)

-- x / y of two ints; the error if an operand is not an int, if y is 0, or on overflow (cel-spec, Overflow)
abbrev pub quotient_of : ValueOrError → ValueOrError → ValueOrError
quotient_of x y = on_ints quotient (int_part x) (int_part y)

-- x % y of two ints; the error if an operand is not an int, and whenever x / y is the error (cel-spec, Overflow)
abbrev pub remainder_of : ValueOrError → ValueOrError → ValueOrError
remainder_of x y = on_ints remainder (int_part x) (int_part y)

-- -x of an int; the error if x is not an int, and for the least int, which overflows (cel-spec, Overflow)
abbrev pub negation_of : ValueOrError → ValueOrError
negation_of x = option_map_or (λ a. int_or_error (neg_ℤ a)) (int_part x) error
