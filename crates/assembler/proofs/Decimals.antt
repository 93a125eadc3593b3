-- Digits that are read are the digits of their number.
use Rattle.assembler.proofs.Prelude.{◌≡◌, ◌≢◌, ◌+◌, ◌*◌, ◌<◌, ℕ, List, [], ◌∷◌, ◌++◌, true, get_or, map, refl, sym, ap, ◌∙◌, arith, append_assoc, digits_of_step, all_below_base_digits_of, all_below_base_from_digits, digits_value_is, first_digits_of, number_after_ge, number_push, and_parts, false≢true, nat_tests, digit_value_digit, IsNumeralModel, digit_from_value, numerals_by_value, tells_all_ascii_digits, nat_eq, not, digit_value, AllBelowBase, digits_of, number_from_digits, all_ascii_digits, AllDigits, digits_value, decimal, bytes_digits, decimal_some, is_positive}
use mathlib.Core.List.{append-nil}

-- one more digit at the end
one_more : (front : List ℕ) (d n : ℕ) → d < 10 → n ≡ number_from_digits 10 front → digits_of 10 n ≡ front → 0 < n * 10 + d
    → digits_of 10 (number_from_digits 10 (front ++ d ∷ [])) ≡ front ++ d ∷ []
one_more front d n low e again some = grind (arith, number_push, digits_of_step)

-- digits without leading zeros are the digits of their number
goes_on : (rest front : List ℕ) → digits_of 10 (number_from_digits 10 front) ≡ front → 0 < number_from_digits 10 front → AllBelowBase 10 rest
    → digits_of 10 (number_from_digits 10 (front ++ rest)) ≡ front ++ rest
goes_on [] front again some low = rw append-nil again
goes_on (d ∷ rest) front again some low =
    let n = number_from_digits 10 front in
    let more = one_more front d n low.0 refl again (omega arith) in
    let some : 0 < number_from_digits 10 (front ++ d ∷ []) = omega (arith, number_push 10 front d) in
    let whole = goes_on rest (front ++ d ∷ []) more some low.1 in
    let e : (front ++ d ∷ []) ++ rest ≡ front ++ d ∷ rest = append_assoc front (d ∷ []) rest in
    rw e at whole

pub digits_again : (d : ℕ) (ds : List ℕ) → 0 < d → AllBelowBase 10 (d ∷ ds) → digits_of 10 (number_from_digits 10 (d ∷ ds)) ≡ d ∷ ds
digits_again d ds some low = goes_on ds (d ∷ []) (one_more [] d 0 low.0 refl refl (omega arith)) (omega arith) low.1

-- digits as bytes

not_zero : (c : ℕ) → not (nat_eq c 48) ≡ true → c ≢ 48
not_zero c e = λ p. let h : nat_eq c 48 ≡ true = grind (arith, nat_tests) in false≢true (sym (ap not h) ∙ e)

own : IsNumeralModel (λ ds. all_ascii_digits ds ≡ true) (digits_value 10)
own = numerals_by_value _ tells_all_ascii_digits

pub bytes_again : (cs : List ℕ) → AllDigits 10 cs → map (λ d. 48 + d) (map digit_value cs) ≡ cs
bytes_again [] d = refl
bytes_again (c ∷ cs) d =
    let k = digit_value_digit c (digit_from_value c d.0) in
    let h : 48 + digit_value c ≡ c = omega arith in
    (λ i. h i ∷ bytes_again cs d.1 i)

-- a list of digits that does not begin with zero
led : (ds : List ℕ) → AllBelowBase 10 ds → 0 < get_or ds 0 0 → is_positive (map (λ d. 48 + d) ds) ≡ true
led [] low some = absurd (omega arith)
led (d ∷ ds) low some = grind (arith, own, bytes_digits, nat_tests)

pub positive_decimal : (n : ℕ) → 0 < n → is_positive (decimal n) ≡ true
positive_decimal n some = grind (arith, decimal_some, led, all_below_base_digits_of, first_digits_of)

pub decimal_again : (cs : List ℕ) → is_positive cs ≡ true → (decimal (digits_value 10 cs) ≡ cs) × (0 < digits_value 10 cs)
decimal_again cs e =
    grind (
      arith,
      false≢true,
      and_parts,
      own,
      not_zero,
      digit_value_digit,
      digit_from_value,
      digits_value_is,
      number_after_ge,
      digits_again,
      all_below_base_from_digits,
      decimal_some,
      bytes_again,
    )
