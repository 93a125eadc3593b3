-- Products, quotients and remainders of ints as words, and how an overflow of a product is found.
-- For the laws in `specs/Gives/Arithmetic`.
use lib.IntN.{+ℤ_invr, *ℤ-zero, zero-*ℤ, pos-*ℤ-pos}
use lib.Signed.{mag_rem}
use Rattle.expression_code.proofs.Prelude.{◌≡◌, ℕ, zero, suc, ◌-◌, ◌*◌, ◌/◌, ◌%◌, ◌^◌, ◌<◌, ◌⊎◌, Bool, true, false, not, refl, sym, ap, ap₂, ◌∙◌, arith, mod-lt, mul-div_cancel, suc-mul, ℤ, pos, negsuc, ◌+ℤ◌, ◌*ℤ◌, neg_ℤ, int_div, int_rem, if◌then◌else◌, w64, int_wrap, ints, int_wrap_fits, int_wrap-add_same, quot-rem, rem_below, wrapping_mul-bits, alu64_of, operated, word_of, signed_is, word_is, AluOp, Mul, Sdiv, Smod, Eq, Ne, W64, ValueOrError, error, value, int, fits, int_or_error, is_zero, quotient, remainder, alu_result, compares}
use Rattle.std.proofs.Common.{ne_eqb}
use Rattle.expression_code.proofs.Effects.{differs_no, differs_yes, equal_is}
use Rattle.expression_code.proofs.Ints.{different, fits_into, fits_is, from_word, is_nothing, is_something, least, minus_one, not_different, not_equal, number, number_word, word, word_fits}
use Rattle.expression_code.proofs.Runs.{either}

-- ---- quotients, and dividing products back

cancel : (a b : ℕ) → (a * suc b) / suc b ≡ a
cancel a b = mul-div_cancel a (omega arith)

none : (b : ℕ) → 0 / suc b ≡ 0
none b = omega (arith, cancel 0 b)

first_factor : (x y : ℤ) → (y ≡ pos 0 → ⊥) → int_div (x *ℤ y) y ≡ x
first_factor x (pos zero) some = absurd (some refl)
first_factor (pos a) (pos (suc b)) some = ap (λ (z : ℤ). int_div z (pos (suc b))) (pos-*ℤ-pos a (suc b)) ∙ ap pos (cancel a b)
first_factor (pos zero) (negsuc b) some = ap (λ (z : ℤ). int_div z (negsuc b)) (zero-*ℤ (negsuc b)) ∙ ap (λ (n : ℕ). neg_ℤ (pos n)) (none b)
first_factor (pos (suc a)) (negsuc b) some = grind (arith, suc-mul, cancel)
first_factor (negsuc a) (pos (suc b)) some = grind (arith, suc-mul, cancel)
first_factor (negsuc a) (negsuc b) some = grind (arith, cancel)

-- the magnitude of a quotient is at most that of its dividend, and less unless the divisor is 1 or -1
quotient_small : (x y : ℤ) → fits x ≡ true → (x ≡ negsuc (2 ^ 63 - 1) → y ≡ negsuc 0 → ⊥) → fits (int_div x y) ≡ true
quotient_small x y small far = grind (arith, ints, cancel, either)

-- if a quotient of two ints has the word of x, it is x, unless the divisor is -1 and x is the smallest int
same_quotient : (t x y : ℤ) → fits t ≡ true → fits x ≡ true → (x ≡ negsuc (2 ^ 63 - 1) → y ≡ negsuc 0 → ⊥) → word_of 64 (int_div t y) ≡ word x → int_div t y ≡ x
unfolding word_of
same_quotient t x y ht hx far e = grind arith

-- two numbers that wrap to the same int and differ by an int are equal
no_rest : (m r t : ℤ) → m +ℤ r ≡ t → int_wrap w64 t ≡ int_wrap w64 m → fits r ≡ true → t ≡ m
no_rest m r t whole same fit =
    let rest : t +ℤ neg_ℤ m ≡ r = omega (arith, ints) in
    let shifted : int_wrap w64 (t +ℤ neg_ℤ m) ≡ int_wrap w64 (m +ℤ neg_ℤ m) = int_wrap-add_same w64 t m (neg_ℤ m) same in
    let nothing : r ≡ pos 0 = sym (int_wrap_fits w64 r (fits_into r fit)) ∙ ap (int_wrap w64) (sym rest) ∙ shifted ∙ ap (int_wrap w64) (+ℤ_invr m)
    ∙ (int_wrap_fits w64 (pos 0) (fits_into (pos 0) refl)) in
    omega (arith, ints)

-- the divisor is not -1, or the dividend is not the smallest int
abbrev pub IsFar : ℕ → ℕ → Type 0
IsFar a b = (compares W64 Ne b minus_one ≡ true) ⊎ (compares W64 Eq a least ≡ false)

far_from : (x y : ℤ) → IsFar (word x) (word y) → x ≡ negsuc (2 ^ 63 - 1) → y ≡ negsuc 0 → ⊥
far_from x y h ex ey = grind (arith, different, word, minus_one, not_equal, least)

quotient_computed : (a b : ℕ) → a < 2 ^ 64 → b < 2 ^ 64 → (b ≡ 0 → ⊥) → alu_result W64 Sdiv a b ≡ word_of 64 (int_div (number a) (number b))
unfolding alu64_of operated
quotient_computed a b ha hb some = rw (ne_eqb b 0 some, signed_is w64 a ha, signed_is w64 b hb) refl

remainder_computed : (a b : ℕ) → a < 2 ^ 64 → b < 2 ^ 64 → (b ≡ 0 → ⊥) → alu_result W64 Smod a b ≡ word_of 64 (int_rem (number a) (number b))
unfolding alu64_of operated
remainder_computed a b ha hb some = rw (ne_eqb b 0 some, signed_is w64 a ha, signed_is w64 b hb) refl

number_word_of : (z : ℤ) → fits z ≡ true → word_of 64 z ≡ word z
number_word_of z h = sym (word_is w64 z (grind (arith, ints)))

-- a product of two words, and tests that show whether the product of the ints fits
pub record Multiplied (a b : ℕ) (z : ℤ) : Type 0 where
  pub result : ℕ
  pub computed : alu_result W64 Mul a b ≡ result
  pub small : result < 2 ^ 64
  pub exact : fits z ≡ true → number result ≡ z
  pub of_zero : compares W64 Eq b 0 ≡ true → fits z ≡ true
  pub over : compares W64 Ne b minus_one ≡ false → compares W64 Eq a least ≡ true → fits z ≡ false
  pub back : compares W64 Eq b 0 ≡ false → IsFar a b → compares W64 Ne (alu_result W64 Sdiv result b) a ≡ not (fits z)

module _ (x y : ℤ) (hx : fits x ≡ true) (hy : fits y ≡ true) where
  abbrev times : ℕ
  times = (word x * word y) % 2 ^ 64

  times_small : times < 2 ^ 64
  times_small = mod-lt (word x * word y) (omega arith)

  times_wraps : number times ≡ int_wrap w64 (x *ℤ y)
  times_wraps = wrapping_mul-bits w64 (word x) (word y) (word_fits x hx) (word_fits y hy) ∙ (λ i. int_wrap w64 (number_word x hx i *ℤ number_word y hy i))

  times_word : fits (x *ℤ y) ≡ true → number times ≡ x *ℤ y
  times_word h = times_wraps ∙ int_wrap_fits w64 (x *ℤ y) (fits_into (x *ℤ y) h)

  times_computed : alu_result W64 Mul (word x) (word y) ≡ times
  unfolding alu64_of operated
  times_computed = refl

  rest_fits : (y ≡ pos 0 → ⊥) → fits (int_rem (number times) y) ≡ true
  rest_fits some = let small = rem_below (number times) y (omega (arith, ints)) in grind (arith, ints)

  -- dividing back gives x only if the product fits
  divides_back : (y ≡ pos 0 → ⊥) → int_div (number times) y ≡ x → number times ≡ x *ℤ y
  divides_back some e =
      let t = number times in
      let whole : x *ℤ y +ℤ int_rem t y ≡ t = ap (λ (q : ℤ). q *ℤ y +ℤ int_rem t y) (sym e) ∙ quot-rem t y in
      no_rest (x *ℤ y) (int_rem t y) t whole (int_wrap_fits w64 t (fits_into t (grind (arith, ints))) ∙ times_wraps) (rest_fits some)

  back_computed : (y ≡ pos 0 → ⊥) → compares W64 Eq (word y) 0 ≡ false → alu_result W64 Sdiv times (word y) ≡ word_of 64 (int_div (number times) y)
  back_computed some h = grind (arith, quotient_computed, times_small, word_fits, not_equal, number_word)

  back_tells : (f : Bool) → fits (x *ℤ y) ≡ f → compares W64 Eq (word y) 0 ≡ false → IsFar (word x) (word y)
      → compares W64 Ne (alu_result W64 Sdiv times (word y)) (word x) ≡ not f
  back_tells true e h far =
      let some = is_something y hy h in
      differs_no (alu_result W64 Sdiv times (word y)) (word x) (back_computed some h ∙ ap (λ (t : ℤ). word_of 64 (int_div t y)) (times_word e) ∙ ap (word_of 64) (first_factor x y some) ∙ number_word_of x hx)
  back_tells false e h far =
      let some = is_something y hy h in
      differs_yes (alu_result W64 Sdiv times (word y)) (word x) (λ same.
      let quotient_is_x = same_quotient (number times) x y (grind (arith, ints)) hx (far_from x y far) (sym (back_computed some h) ∙ same) in
      let yes : fits (x *ℤ y) ≡ true = ap fits (sym (divides_back some quotient_is_x)) ∙ (grind (arith, ints)) in
      absurd (cc))

  over_least : x ≡ negsuc (2 ^ 63 - 1) → y ≡ negsuc 0 → fits (x *ℤ y) ≡ false
  over_least ex ey = ap₂ (λ (a b : ℤ). fits (a *ℤ b)) ex ey ∙ refl

  pub multiplied : Multiplied (word x) (word y) (x *ℤ y)
  multiplied = record {
    result = times;
    computed = times_computed;
    small = times_small;
    exact = times_word;
    of_zero = λ h. (ap (λ (d : ℤ). fits (x *ℤ d)) (is_nothing y hy h) ∙ ap fits (*ℤ-zero x));
    over = λ h1 h2. over_least (from_word x hx least (equal_is (word x) least h2)) (from_word y hy minus_one (not_different (word y) minus_one h1));
    back = λ h far. back_tells (fits (x *ℤ y)) refl h far;
  }

-- ---- the result of a division

-- a division of two words has a result, and its int is the value
pub record Computes (op : AluOp) (a b : ℕ) (v : ValueOrError) : Type 0 where
  pub result : ℕ
  pub computed : alu_result W64 op a b ≡ result
  pub small : result < 2 ^ 64
  pub exact : value (int (number result)) ≡ v

-- the error if the divisor is zero, or if it is -1 and the dividend is the smallest int
pub record Divided (op : AluOp) (a b : ℕ) (v : ValueOrError) : Type 0 where
  pub of_zero : compares W64 Eq b 0 ≡ true → v ≡ error
  pub over : compares W64 Ne b minus_one ≡ false → compares W64 Eq a least ≡ true → v ≡ error
  pub computes : compares W64 Eq b 0 ≡ false → IsFar a b → Computes op a b v

zero_no : (y : ℤ) → (y ≡ pos 0 → ⊥) → is_zero y ≡ false
zero_no y some = grind arith

module _ (x y : ℤ) (hx : fits x ≡ true) (hy : fits y ≡ true) where
  remainder_fits : fits (int_rem x y) ≡ true
  remainder_fits = fits_is (int_rem x y) (record { sfits = omega (arith, mag_rem x y, (fits_into x hx).sfits) })

  quotient_is : (y ≡ pos 0 → ⊥) → fits (int_div x y) ≡ true → value (int (int_div x y)) ≡ quotient x y
  quotient_is some h = sym (ap (λ (t : Bool). if t then error else int_or_error (int_div x y)) (zero_no y some) ∙ ap (λ (t : Bool). if t then value (int (int_div x y)) else error) h)

  remainder_is : (y ≡ pos 0 → ⊥) → fits (int_div x y) ≡ true → value (int (int_rem x y)) ≡ remainder x y
  remainder_is some h = sym (ap (λ (t : Bool). if t then error else (if fits (int_div x y) then value (int (int_rem x y)) else error)) (zero_no y some) ∙ ap (λ (t : Bool). if t then value (int (int_rem x y)) else error) h)

  x_is : compares W64 Eq (word x) least ≡ true → x ≡ negsuc (2 ^ 63 - 1)
  x_is h = from_word x hx least (equal_is (word x) least h)

  y_is : compares W64 Ne (word y) minus_one ≡ false → y ≡ negsuc 0
  y_is h = from_word y hy minus_one (not_different (word y) minus_one h)

  -- a division whose divisor is not zero and whose result fits
  computes : (op : AluOp) (divide : ℤ → ℤ → ℤ) (v : ValueOrError) → alu_result W64 op (word x) (word y) ≡ word_of 64 (divide (number (word x)) (number (word y)))
      → fits (divide x y) ≡ true → value (int (divide x y)) ≡ v → Computes op (word x) (word y) v
  computes op divide v computed small is = grind (arith, word, number_word, number_word_of, word_fits)

  pub quotient_divided : Divided Sdiv (word x) (word y) (quotient x y)
  quotient_divided = record {
    of_zero = λ h. ap (quotient x) (is_nothing y hy h);
    over = λ h1 h2. ap₂ quotient (x_is h2) (y_is h1);
    computes = λ h far.
        let some = is_something y hy h in
        let small = quotient_small x y hx (far_from x y far) in
        computes Sdiv int_div _ (quotient_computed (word x) (word y) (word_fits x hx) (word_fits y hy) (not_equal (word y) 0 h)) small (quotient_is some small);
  }

  pub remainder_divided : Divided Smod (word x) (word y) (remainder x y)
  remainder_divided = record {
    of_zero = λ h. ap (remainder x) (is_nothing y hy h);
    over = λ h1 h2. ap₂ remainder (x_is h2) (y_is h1);
    computes = λ h far.
        let some = is_something y hy h in
        let small = quotient_small x y hx (far_from x y far) in
        computes Smod int_rem _ (remainder_computed (word x) (word y) (word_fits x hx) (word_fits y hy) (not_equal (word y) 0 h)) remainder_fits (remainder_is some small);
  }
