-- The exponent of a size that was capped.
use Rattle.std.proofs.Common.{◌≡◌, ℕ, ◌-◌, ◌^◌, ◌≤◌, min, Bool, true, false, None, arith, refl, sym, ◌∙◌, inl, inr}
use Rattle.std.proofs.lemmas.Bool.{cases_lt}
use Rattle.std.proofs.lemmas.Bool.Decides.{nat_tests}
use Rattle.quantities.specs.Suffixes.{exponent_in, fits64}

no_fit : (minus : Bool) (n : ℕ) → 2 ^ 128 - 1 ≤ n → fits64 minus n ≡ false
no_fit true n h = grind (arith, nat_tests)
no_fit false n h = grind (arith, nat_tests)

none : (minus : Bool) (n : ℕ) → 2 ^ 128 - 1 ≤ n → exponent_in minus n ≡ None
unfolding exponent_in
none minus n h = rw (no_fit minus n h) refl

pub kept_exponent : (minus : Bool) (n : ℕ) → exponent_in minus (min n (2 ^ 128 - 1)) ≡ exponent_in minus n
kept_exponent minus n =
    elim (cases_lt n (2 ^ 128 - 1)) [
      | inl h ↦ (let p : min n (2 ^ 128 - 1) ≡ n = omega arith in rw p refl)
      | inr h ↦ (let p : min n (2 ^ 128 - 1) ≡ 2 ^ 128 - 1 = omega arith in rw p (none minus (2 ^ 128 - 1) (omega arith) ∙ sym (none minus n h)))
    ]
