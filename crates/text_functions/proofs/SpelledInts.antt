-- Ints in texts: what the library reads is what the definition gives.
use Rattle.text_functions.proofs.Prelude.{◌≡◌, ◌<◌, ◌^◌, ◌&&◌, ℕ, ℤ, pos, negsuc, Bool, true, false, cond, List, length, Some}
use Rattle.text_functions.proofs.Prelude.{None, Result, Ok, Err, refl, ap, ap₂, arith, nat_tests, and_parts, w64, FitsSigned}
use Rattle.text_functions.proofs.Prelude.{result_ok, all_ascii_digits, digits_value, signed_digits_value, without_leading_sign}
use Rattle.text_functions.proofs.Prelude.{IsNumeral, ParsesSigned, IsNumeralModel, numerals_by_value, tells_all_ascii_digits, nat_lt}
use Rattle.text_functions.proofs.Prelude.{fits64, int_of, is_numeral}

own : IsNumeralModel (λ ds. all_ascii_digits ds ≡ true) (digits_value 10)
own = numerals_by_value (λ ds. all_ascii_digits ds ≡ true) tells_all_ascii_digits

fits_test : (z : ℤ) → FitsSigned w64 z → fits64 z ≡ true
fits_test (pos n) h = let l : n < 2 ^ 63 = h.sfits in grind (arith, nat_tests)
fits_test (negsuc n) h = let l : n < 2 ^ 63 = h.sfits in grind (arith, nat_tests)

fits_from : (z : ℤ) → fits64 z ≡ true → FitsSigned w64 z
fits_from (pos n) e = let l : n < 2 ^ 63 = grind (arith, nat_tests) in record { sfits = l }
fits_from (negsuc n) e = let l : n < 2 ^ 63 = grind (arith, nat_tests) in record { sfits = l }

some_test : (n : ℕ) → 0 < n → nat_lt 0 n ≡ true
some_test n h = grind (arith, nat_tests)

some_from : (n : ℕ) → nat_lt 0 n ≡ true → 0 < n
some_from n e = grind (arith, nat_tests)

numeral_test : (ds : List ℕ) → IsNumeral 10 ds → is_numeral ds ≡ true
numeral_test ds h = ap₂ (λ a b. a && b) (some_test (length ds) h.0) (own.from ds h.1)

numeral_from : (ds : List ℕ) → is_numeral ds ≡ true → IsNumeral 10 ds
numeral_from ds e =
    let p = and_parts (nat_lt 0 (length ds)) (all_ascii_digits ds) e in
    (some_from (length ds) p.0, own.to ds p.1)

taken : (a b : Bool) (x z : ℤ) → a ≡ true → b ≡ true → x ≡ z → Some x ≡ cond a (cond b (Some z) None) None
taken true true x z e f h = ap Some h
taken true false x z e f h = let no : false ≡ true = f in cc
taken false b x z e f h = let no : false ≡ true = e in cc

refused : (a b : Bool) (z : ℤ) → (a ≡ true → b ≡ true → ⊥) → None ≡ cond a (cond b (Some z) None) None
refused true true z h = absurd (h refl refl)
refused true false z h = refl
refused false b z h = refl

pub parsed : {E : Type 0} (text : List ℕ) (r : Result ℤ E) → ParsesSigned w64 10 text r → result_ok r ≡ int_of text
unfolding int_of
parsed text (Ok x) h =
    taken (is_numeral (without_leading_sign text)) (fits64 (signed_digits_value 10 text)) x (signed_digits_value 10 text)
    (numeral_test (without_leading_sign text) h.0.0) (fits_test (signed_digits_value 10 text) h.0.1) h.1
parsed text (Err e) h =
    refused (is_numeral (without_leading_sign text)) (fits64 (signed_digits_value 10 text)) (signed_digits_value 10 text)
    (λ a b. h (numeral_from (without_leading_sign text) a, fits_from (signed_digits_value 10 text) b))
