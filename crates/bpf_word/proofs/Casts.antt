-- The standard library's casts between words and signed numbers agree with these definitions.
use Rattle.bpf_word.proofs.Prelude.{◌≡◌, ℕ, ◌+◌, ◌-◌, ◌<◌, ◌≤◌, ◌^◌, ◌%◌, refl, sym, ap, ◌∙◌, arith, ℤ, pos, ◌-ℤ◌, unsigned_abs, int_div, FitsSigned, Width, cast_signed, cast_unsigned, int_wrapping_div, IsNonZero, mag, ints, int_rem_euclid_is, of_z-to_z, to_z-of_z, signed_of, word_of}
use mir.Val.{bits}

-- `cast_signed` agrees with `signed_of`
pub signed_is : (w : Width) (n : ℕ) → n < 2 ^ bits w → cast_signed w n ≡ signed_of (bits w) n
unfolding signed_of
signed_is w n h = grind arith

-- the result of a cast, read back as the number
pub read_is : (w : Width) (z : ℤ) (n : ℕ) → FitsSigned w z → z ≡ cast_signed w n → n < 2 ^ bits w → cast_signed w (cast_unsigned w z) ≡ signed_of (bits w) n
read_is w z n fits e h = to_z-of_z w z fits ∙ e ∙ signed_is w n h

-- `cast_unsigned` agrees with `word_of`
pub word_is : (w : Width) (z : ℤ) → mag z < 2 ^ bits w → cast_unsigned w z ≡ word_of (bits w) z
unfolding word_of
word_is w z h = grind arith

word_below : (w : Width) (z : ℤ) → mag z < 2 ^ bits w → cast_unsigned w z < 2 ^ bits w
word_below w z h = grind arith

mag_below : (w : Width) (n : ℕ) → n < 2 ^ bits w → mag (cast_signed w n) < 2 ^ bits w
mag_below w n h = grind arith

-- wrapping a number does not change its word
pub wrapped_is : (w : Width) (z : ℤ) → mag z < 2 ^ bits w → word_of (bits w) (cast_signed w (cast_unsigned w z)) ≡ word_of (bits w) z
wrapped_is w z h =
    let b = word_below w z h in
    sym (word_is w (cast_signed w (cast_unsigned w z)) (mag_below w (cast_unsigned w z) b)) ∙ of_z-to_z w (cast_unsigned w z) b ∙ word_is w z h

-- `wrapping_sub` returns the word of the difference
pub difference_is : (bits a b : ℕ) → b < 2 ^ bits → (a + (2 ^ bits - b)) % 2 ^ bits ≡ word_of bits (pos a -ℤ pos b)
unfolding word_of
difference_is bits a b h =
    sym (ap unsigned_abs (int_rem_euclid_is (pos a -ℤ pos b) (pos (2 ^ bits)) (2 ^ bits) 1 (a + (2 ^ bits - b)) (omega arith) refl (omega (arith, ints))))

mag_quotient : (x y : ℤ) → mag (int_div x y) ≤ mag x + 1
mag_quotient x y = grind arith

-- a number of this width, read from the word
pub record IsSigned (w : Width) (word : ℕ) (z : ℤ) : Type 0 where
  pub fits : FitsSigned w z
  pub is : z ≡ signed_of (bits w) word

-- `wrapping_div` of the signed numbers of two words returns the word of the quotient
pub quotient_is : (w : Width) (a b : ℕ) (x y q : ℤ) → IsSigned w a x → IsSigned w b y → FitsSigned w q
    → q ≡ int_wrapping_div w (cast_signed w (cast_unsigned w x)) (cast_signed w (cast_unsigned w y))
    → word_of (bits w) (cast_signed w (cast_unsigned w q)) ≡ word_of (bits w) (int_div (signed_of (bits w) a) (signed_of (bits w) b))
quotient_is w a b x y q first second fq e =
    let fx = first.fits in
    let fy = second.fits in
    let ex = first.is in
    let ey = second.is in
    grind (arith, to_z-of_z, wrapped_is, mag_quotient)

-- a word other than 0 does not denote 0, wrapped or not
pub nonzero_is : (w : Width) (n : ℕ) (z : ℤ) → n < 2 ^ bits w → ¬ (n ≡ 0) → FitsSigned w z → z ≡ signed_of (bits w) n → IsNonZero w (cast_signed w (cast_unsigned w z))
nonzero_is w n z h ne fits e =
    let f : cast_unsigned w z ≡ n = ap (cast_unsigned w) (e ∙ sym (signed_is w n h)) ∙ of_z-to_z w n h in
    rw (to_z-of_z w z fits) (omega (arith, f, ne))
