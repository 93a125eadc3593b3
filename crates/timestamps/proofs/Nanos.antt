-- The nanoseconds of at most nine digits.
use Rattle.std.proofs.Common.{◌≡◌, ◌∙◌, ℕ, ◌*◌, ◌-◌, ◌^◌, ◌<◌, ◌≤◌, List, length, take, min, arith, lit<, ap, ap₂, sym, subst}
use Rattle.std.proofs.Math.Nat.{mul-le-mul, pow-le-pow_right}
use Rattle.std.proofs.lemmas.List.{length-take, take_min}
use Rattle.text_numbers.proofs.Decimals.{digits_front, digits_take, small_number}
use Rattle.text_numbers.specs.Numbers.{AreAllDigits, digits_len, number}
use Rattle.timestamps.specs.Timestamps.{nanos_of}

pub small_power : (n : ℕ) → n ≤ 9 → 10 ^ n ≤ 1000000000
small_power n h = pow-le-pow_right {n = 10} (lit< tt) h

pub few_digits : (ds : List ℕ) → AreAllDigits ds → length ds ≤ 9 → number ds < 1000000000
few_digits ds h k = omega (arith, small_number ds h, small_power (length ds) k)

pub small_product : (a n : ℕ) → a < 1000000000 → n ≤ 9 → a * 10 ^ n ≤ 1000000000000000000
small_product a n h k =
    let p : a ≤ 1000000000 = omega arith in
    let q : 10 ^ n ≤ 1000000000 = small_power n k in
    mul-le-mul p q

-- the first digits are digits
pub are_first : (text ds : List ℕ) (n : ℕ) → n ≡ digits_len text → ds ≡ take n text → AreAllDigits ds
are_first text ds n e f = subst AreAllDigits (sym (f ∙ ap (λ k. take k text) e)) (digits_front text)

pub are_some : (digits ds : List ℕ) (n : ℕ) → AreAllDigits digits → ds ≡ take n digits → AreAllDigits ds
are_some digits ds n h f = subst AreAllDigits (sym f) (digits_take n digits h)

-- nine of the digits, or all of fewer, denote the same nanoseconds
pub cut_digits : (digits ds : List ℕ) (n r : ℕ) → n ≡ min 9 (length digits) → ds ≡ take n digits → r ≡ number ds * 10 ^ (9 - length ds) → r ≡ nanos_of digits
cut_digits digits ds n r e f g =
    let front : ds ≡ take 9 digits = f ∙ ap (λ k. take k digits) e ∙ take_min 9 digits in
    let len : 9 - length ds ≡ 9 - length digits = omega (arith, ap length front, length-take 9 digits) in
    g ∙ ap₂ (λ a b. a * 10 ^ b) (ap number front) len
