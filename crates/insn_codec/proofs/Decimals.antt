-- The digits that `decimal` writes, the number that they are read as, and numbers
-- as the standard library prints them.
use Rattle.insn_codec.proofs.Prelude.{◌≡◌, ◌+◌, ◌<◌, ℕ, List, [], ◌∷◌, false, map, refl, sym, ap, ◌∙◌, arith, ℤ, FitsSigned, all_below_base_digits_of, digits_value_is, number_digits_of, nat_tests, nat_eq, digit_value, AllBelowBase, digits_of, AllDigits, digits_value, decimal, signed_decimal, decimal-digits_of, decimal_digit}
use Rattle.std.proofs.Common.{w32}
use Rattle.std.specs.Fmt as fmt

small_digit : (d : ℕ) → d < 10 → digit_value (48 + d) ≡ d
small_digit d low = grind (arith, nat_tests)

pub values_again : (ds : List ℕ) → AllBelowBase 10 ds → map digit_value (map (λ d. 48 + d) ds) ≡ ds
values_again [] low = refl
values_again (d ∷ ds) low = (λ i. small_digit d low.0 i ∷ values_again ds low.1 i)

pub bytes_digits : (ds : List ℕ) → AllBelowBase 10 ds → AllDigits 10 (map (λ d. 48 + d) ds)
bytes_digits [] low = tt
bytes_digits (d ∷ ds) low = (omega (arith, small_digit d low.0, low.0), bytes_digits ds low.1)

pub decimal_zero : decimal 0 ≡ 48 ∷ []
unfolding decimal
decimal_zero = refl

pub decimal_some : (n : ℕ) → 0 < n → decimal n ≡ map (λ d. 48 + d) (digits_of 10 n)
unfolding decimal
decimal_some n some = let h : nat_eq n 0 ≡ false = grind (arith, nat_tests) in rw h refl

pub decimal_digits : (n : ℕ) → AllDigits 10 (decimal n)
decimal_digits n = grind (arith, decimal_zero, decimal_some, bytes_digits, all_below_base_digits_of)

pub decimal_value : (n : ℕ) → digits_value 10 (decimal n) ≡ n
decimal_value n = grind (arith, decimal_zero, decimal_some, digits_value_is, values_again, all_below_base_digits_of, number_digits_of)

pub decimal_injective : (m n : ℕ) → decimal m ≡ decimal n → m ≡ n
decimal_injective m n e = sym (decimal_value m) ∙ ap (digits_value 10) e ∙ decimal_value n

-- the text that `{}` writes for a number
pub shown : (z : ℤ) → FitsSigned w32 z → fmt.signed_decimal z ≡ signed_decimal z
shown z fits = grind (arith, decimal_digit, decimal_zero, decimal-digits_of, decimal_some)
