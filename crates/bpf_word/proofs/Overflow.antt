-- Sums of words, and when they are those of the signed numbers. Crates above use these.
use Rattle.bpf_word.proofs.Prelude.{◌≡◌, ℕ, ◌<◌, ◌^◌, arith, true, false, ints, holds_of, IsSigned, SumsOverflow, exact_sum, wrapped_sum, signed_of, Sge, Slt}

module _ (a b : ℕ) (ha : a < 2 ^ 64) (hb : b < 2 ^ 64) where
  pub rises : holds_of Slt b 0 ≡ false → holds_of Slt (wrapped_sum a b) a ≡ false → signed_of 64 (wrapped_sum a b) ≡ exact_sum a b
  unfolding signed_of holds_of
  rises positive above = grind (arith, ints)

  pub rises_over : holds_of Slt b 0 ≡ false → holds_of Slt (wrapped_sum a b) a ≡ true → IsSigned (exact_sum a b) → ⊥
  unfolding signed_of holds_of
  rises_over positive less fits = let high = fits.1 in grind (arith, ints)

  pub falls : holds_of Slt b 0 ≡ true → holds_of Sge (wrapped_sum a b) a ≡ false → signed_of 64 (wrapped_sum a b) ≡ exact_sum a b
  unfolding signed_of holds_of
  falls negative less = grind (arith, ints)

  pub falls_over : holds_of Slt b 0 ≡ true → holds_of Sge (wrapped_sum a b) a ≡ true → IsSigned (exact_sum a b) → ⊥
  unfolding signed_of holds_of
  falls_over negative above fits = let low = fits.0 in grind (arith, ints)

pub sums_overflow : SumsOverflow
sums_overflow = record { rises = rises; rises_over = rises_over; falls = falls; falls_over = falls_over }
