-- What is read of a number is the same whether or not the number was capped at 128 bits.
use Rattle.wide_tokens.proofs.Prelude.{◌≡◌, ℕ, ◌-◌, ◌^◌, arith, Bool, min, code_point, int_of, uint_of}

pub kept_code : (m : ℕ) → code_point (min m (2 ^ 128 - 1)) ≡ code_point m
kept_code m = grind arith

pub kept_int : (minus : Bool) (m : ℕ) → int_of minus (min m (2 ^ 128 - 1)) ≡ int_of minus m
kept_int minus m = grind arith

pub kept_uint : (m : ℕ) → uint_of (min m (2 ^ 128 - 1)) ≡ uint_of m
kept_uint m = grind arith
