-- When the sum of two words is the sum of their signed numbers: two signed comparisons decide.
use Rattle.std.specs.Prelude.{◌≡◌, ℕ, ◌+◌, ◌-◌, ◌%◌, ◌^◌, ◌<◌, ℤ, pos, negsuc, ◌+ℤ◌, ◌≤ℤ◌, true, false}
use Rattle.bpf_word.specs.Comparisons.{holds_of}
use Rattle.bpf_word.specs.Signs.{signed_of}
use Rattle.insn_codec.specs.declared.comparison.Comparison.TheVariants.{Sge, Slt}

-- the number is a signed 64-bit number
abbrev pub IsSigned : ℤ → Type 0
IsSigned number = (negsuc (2 ^ 63 - 1) ≤ℤ number) × (number ≤ℤ pos (2 ^ 63 - 1))

-- the wrapped sum of two words
abbrev pub wrapped_sum : ℕ → ℕ → ℕ
wrapped_sum a b = (a + b) % 2 ^ 64

-- the sum of their signed numbers
abbrev pub exact_sum : ℕ → ℕ → ℤ
exact_sum a b = signed_of 64 a +ℤ signed_of 64 b

-- the sign of b and the comparison of the wrapped sum with a decide whether the sum is exact
pub record SumsOverflow : Type 0 where
  -- if b is not negative: the sum is exact if it is not less than a, and otherwise is no signed 64-bit number
  pub rises : (a b : ℕ) → a < 2 ^ 64 → b < 2 ^ 64 → holds_of Slt b 0 ≡ false → holds_of Slt (wrapped_sum a b) a ≡ false
      → signed_of 64 (wrapped_sum a b) ≡ exact_sum a b
  pub rises_over : (a b : ℕ) → a < 2 ^ 64 → b < 2 ^ 64 → holds_of Slt b 0 ≡ false → holds_of Slt (wrapped_sum a b) a ≡ true
      → ¬ IsSigned (exact_sum a b)
  -- if b is negative: the sum is exact if it is less than a, and otherwise is no signed 64-bit number
  pub falls : (a b : ℕ) → a < 2 ^ 64 → b < 2 ^ 64 → holds_of Slt b 0 ≡ true → holds_of Sge (wrapped_sum a b) a ≡ false
      → signed_of 64 (wrapped_sum a b) ≡ exact_sum a b
  pub falls_over : (a b : ℕ) → a < 2 ^ 64 → b < 2 ^ 64 → holds_of Slt b 0 ≡ true → holds_of Sge (wrapped_sum a b) a ≡ true
      → ¬ IsSigned (exact_sum a b)
