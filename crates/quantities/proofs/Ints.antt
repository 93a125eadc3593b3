-- The int of a mantissa that was capped.
use Rattle.std.proofs.Common.{◌≡◌, ℕ, ◌-◌, ◌*◌, ◌^◌, ◌≤◌, min, ℤ, pos, negsuc, Bool, None, arith, refl, sym, ◌∙◌, inl, inr, lit<, lit≤, nat_lt, false, unsigned_abs, ◌≤ℤ◌, ◌<ℤ◌}
use Rattle.std.proofs.lemmas.Int.{ints, to_z-of_z}
use Rattle.std.proofs.Math.Nat.{mul-le-mul_left, one-le-pow}
use Rattle.std.proofs.lemmas.Bool.{cases_lt}
use Rattle.std.proofs.lemmas.Bool.Decides.{nat_tests}
use Rattle.quantities.specs.Quantities.{int_of, small_int}

no_fit : (n : ℕ) → 2 ^ 63 ≤ n → nat_lt n (2 ^ 63) ≡ false
no_fit n h = grind (arith, nat_tests)

none : (minus : Bool) (n : ℕ) → 2 ^ 63 ≤ n → small_int minus n ≡ None
unfolding small_int
none minus n h = rw (no_fit n h) refl

pub kept_small : (minus : Bool) (n : ℕ) → small_int minus (min n (2 ^ 128 - 1)) ≡ small_int minus n
kept_small minus n =
    elim (cases_lt n (2 ^ 128 - 1)) [
      | inl h ↦ (let p : min n (2 ^ 128 - 1) ≡ n = omega arith in rw p refl)
      | inr h ↦ (let p : min n (2 ^ 128 - 1) ≡ 2 ^ 128 - 1 = omega arith in rw p (none minus (2 ^ 128 - 1) (lit≤ tt) ∙ sym (none minus n (omega arith))))
    ]

grows : (n k : ℕ) → n ≤ n * 10 ^ k
grows n k = let x : n * 1 ≤ n * 10 ^ k = mul-le-mul_left n (one-le-pow k 10 (lit< tt)) in omega (arith, x)

pub up : (minus : Bool) (n : ℕ) (z : ℤ) → pos 0 ≤ℤ z → int_of minus n z ≡ small_int minus (n * 10 ^ unsigned_abs z)
unfolding int_of
up minus n (pos k) h = refl
up minus n (negsuc k) h = absurd (omega (arith, ints))

pub down : (minus : Bool) (n : ℕ) (z : ℤ) → z <ℤ pos 0 → int_of minus n z ≡ None
unfolding int_of
down minus n (pos k) h = absurd (omega (arith, ints))
down minus n (negsuc k) h = refl

large : (minus : Bool) (n : ℕ) (z : ℤ) → 2 ^ 128 - 1 ≤ n → int_of minus n z ≡ None
unfolding int_of
large minus n (pos k) h = none minus (n * 10 ^ k) (omega (arith, grows n k))
large minus n (negsuc k) h = refl

pub kept_int : (minus : Bool) (n : ℕ) (z : ℤ) → int_of minus (min n (2 ^ 128 - 1)) z ≡ int_of minus n z
kept_int minus n z =
    elim (cases_lt n (2 ^ 128 - 1)) [
      | inl h ↦ (let p : min n (2 ^ 128 - 1) ≡ n = omega arith in rw p refl)
      | inr h ↦ (let p : min n (2 ^ 128 - 1) ≡ 2 ^ 128 - 1 = omega arith in rw p (large minus (2 ^ 128 - 1) z (omega arith) ∙ sym (large minus n z h)))
    ]

pub ruleset scaled_ints = (up, down, kept_small, to_z-of_z)

pub ruleset kept_ints = (kept_int, to_z-of_z)
