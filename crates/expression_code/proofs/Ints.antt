-- Ints of 64 bits as words: when results fit, and what tests of words show about ints. For the laws in
-- `specs/Gives/Arithmetic`.
use Rattle.expression_code.proofs.Prelude.{◌≡◌, ℕ, ◌+◌, ◌-◌, ◌%◌, ◌^◌, ◌<◌, ◌≤◌, true, false, refl, ◌∙◌, rules, arith, sym, ap, mod-lt, FitsSigned, ℤ, pos, ◌+ℤ◌, ◌-ℤ◌, neg_ℤ, w64, cast_signed, cast_unsigned, ints, to_z-of_z, nat_tests, alu64_of, operated, holds_of, IsSigned, signed_of, word_of, falls, falls_over, rises, rises_over, alu_result, compares, negated, Comparison, Sge, Sgt, Sle, Slt, Eq, Ne, W64, error, value, int, fits, int_or_error, difference_is}
use Rattle.expression_code.proofs.Effects.{differs_no, differs_yes, equal_is, equal_yes}
use Rattle.expression_code.proofs.Runs.{either}
use Rattle.insn_codec.specs.declared.alu_op.AluOp.TheVariants as op

-- an int's word
pub word_small : (z : ℤ) → FitsSigned w64 z → cast_unsigned w64 z < 2 ^ 64
word_small z h = grind arith

-- the signed number of a word
pub signed_is : (w : ℕ) → w < 2 ^ 64 → signed_of 64 w ≡ cast_signed w64 w
unfolding signed_of
signed_is w h = grind (arith, ints)

pub signed_word : (z : ℤ) → FitsSigned w64 z → signed_of 64 (cast_unsigned w64 z) ≡ z
signed_word z h = signed_is (cast_unsigned w64 z) (word_small z h) ∙ to_z-of_z w64 z h

pub fits_is : (z : ℤ) → FitsSigned w64 z → fits z ≡ true
fits_is z h = let small = h.sfits in grind (arith, ints)

pub fits_not : (z : ℤ) → (FitsSigned w64 z → ⊥) → fits z ≡ false
fits_not z h = grind (arith, ints, nat_tests)

-- an int is its own result if it fits, else the error is
pub exact : (z : ℤ) → fits z ≡ true → value (int z) ≡ int_or_error z
exact z h = rw h refl

pub over : (z : ℤ) → fits z ≡ false → error ≡ int_or_error z
over z h = rw h refl

pub cast_fits : (w : ℕ) → w < 2 ^ 64 → FitsSigned w64 (cast_signed w64 w)
cast_fits w h = search (rules, ints)

pub difference_word : (m n : ℕ) → n ≤ 2 ^ 64 → word_of 64 (pos m -ℤ pos n) ≡ (m + (2 ^ 64 - n)) % 2 ^ 64
unfolding word_of
difference_word m n h = grind arith

-- ---- sums and differences

-- two comparisons show whether the word w of a result is the number z, one for an operand b that is not negative and
-- one for a negative operand
pub record Checked (below above : Comparison) (a b w : ℕ) (z : ℤ) : Type 0 where
  pub small : w < 2 ^ 64
  pub rises : compares W64 Slt b 0 ≡ false → compares W64 above w a ≡ false → signed_of 64 w ≡ z
  pub rises_over : compares W64 Slt b 0 ≡ false → compares W64 above w a ≡ true → IsSigned z → ⊥
  pub falls : compares W64 Slt b 0 ≡ true → compares W64 below w a ≡ false → signed_of 64 w ≡ z
  pub falls_over : compares W64 Slt b 0 ≡ true → compares W64 below w a ≡ true → IsSigned z → ⊥

module _ (a b : ℕ) (ha : a < 2 ^ 64) (hb : b < 2 ^ 64) where
  pub sum_checked : Checked Sge Slt a b (alu_result W64 op.Add a b) (signed_of 64 a +ℤ signed_of 64 b)
  unfolding alu64_of operated
  sum_checked = grind (arith, rises, rises_over, falls, falls_over)

  pub difference_checked : Checked Sle Sgt a b (alu_result W64 op.Sub a b) (signed_of 64 a -ℤ signed_of 64 b)
  unfolding alu64_of operated signed_of holds_of
  difference_checked =
      rw (difference_word a b (omega arith)) (record {
        small = omega arith;
        rises = λ positive above. grind (arith, ints);
        rises_over = λ positive above fits. let low = fits.0 in grind (arith, ints);
        falls = λ negative below. grind (arith, ints);
        falls_over = λ negative below fits. let high = fits.1 in grind (arith, ints);
      })

-- ---- words, what tests of them show about ints, and negation

abbrev pub word : ℤ → ℕ
word z = cast_unsigned w64 z

abbrev pub number : ℕ → ℤ
number w = cast_signed w64 w

pub fits_into : (z : ℤ) → fits z ≡ true → FitsSigned w64 z
fits_into z h = record { sfits = grind (arith, ints) }

pub word_fits : (z : ℤ) → fits z ≡ true → word z < 2 ^ 64
word_fits z h = grind (arith, ints)

pub number_word : (z : ℤ) → fits z ≡ true → number (word z) ≡ z
number_word z h = to_z-of_z w64 z (fits_into z h)

-- the words of -1 and of the smallest int
abbrev pub minus_one : ℕ
minus_one = 2 ^ 64 - 1

abbrev pub least : ℕ
least = 2 ^ 63

-- ---- what comparisons of words show

pub not_equal : (a b : ℕ) → compares W64 Eq a b ≡ false → a ≡ b → ⊥
not_equal a b h e = let yes = equal_yes a b e in absurd (cc)

pub not_different : (a b : ℕ) → compares W64 Ne a b ≡ false → a ≡ b
not_different a b h = either (compares W64 Eq a b) (λ t. equal_is a b t) (λ f. let yes = differs_yes a b (not_equal a b f) in absurd (cc))

pub different : (a b : ℕ) → compares W64 Ne a b ≡ true → a ≡ b → ⊥
different a b h e = let no = differs_no a b e in absurd (cc)

-- what tests of their words show about two ints
module _ (z : ℤ) (hz : fits z ≡ true) where
  pub from_word : (w : ℕ) → word z ≡ w → z ≡ number w
  from_word w e = sym (number_word z hz) ∙ ap number e

  pub is_nothing : compares W64 Eq (word z) 0 ≡ true → z ≡ pos 0
  is_nothing h = from_word 0 (equal_is (word z) 0 h)

  pub is_something : compares W64 Eq (word z) 0 ≡ false → z ≡ pos 0 → ⊥
  is_something h e = not_equal (word z) 0 h (ap word e)

-- ---- negation

-- the negation of a word is that of its int, except for the smallest int, whose negation does not fit
pub record Negated (a : ℕ) (z : ℤ) : Type 0 where
  pub small : negated W64 a < 2 ^ 64
  pub exact : compares W64 Eq a least ≡ false → (fits (neg_ℤ z) ≡ true) × (number (negated W64 a) ≡ neg_ℤ z)
  pub over : compares W64 Eq a least ≡ true → fits (neg_ℤ z) ≡ false

module _ (z : ℤ) (hz : fits z ≡ true) where
  opposite_is : negated W64 (word z) ≡ (2 ^ 64 - word z) % 2 ^ 64
  unfolding alu64_of operated
  opposite_is =
      let none : 0 + (2 ^ 64 - word z) ≡ 2 ^ 64 - word z = omega arith in
      sym (difference_is 64 0 (word z) (word_fits z hz)) ∙ ap (λ (n : ℕ). n % 2 ^ 64) none

  pub negated_is : Negated (word z) z
  negated_is = grind (arith, mod-lt, opposite_is, not_equal, ints, from_word, equal_is)
