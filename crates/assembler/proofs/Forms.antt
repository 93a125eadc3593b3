-- The forms of numbers in lines.
use Rattle.assembler.proofs.Prelude.{◌≡◌, ◌-◌, ◌<◌, ℕ, suc, ℤ, pos, negsuc, List, [], ◌∷◌, false, true, length, Result, Ok, Err, sym, ap, ◌∙◌, subst, arith, neg_ℤ, FitsSigned, to_z, of_z, nat_eq, ◌&&◌, ◌⊎◌, OkIff, AllDigits, ParsesSigned, digits_value, and_parts, false≢true, nat_tests, bytes_eq-Decides, digit_from_value, numerals_by_value, tells_digits, parse_signed_digits, parse_signed_minus, parse_signed_plus, decimal, offset_text, signed_decimal, is_decimal, is_immediate, is_offset, is_positive, decimal_digits, decimal_value, decimal_zero}
use Rattle.assembler.proofs.Ends.{either}
use mir.Syntax.{Width}
use Rattle.assembler.proofs.Decimals.{decimal_again, positive_decimal}

-- a text of this form is a number's text

positive_said : (cs : List ℕ) → is_positive cs ≡ true → (n : ℕ) × (cs ≡ decimal (suc n))
positive_said cs e =
    let t = decimal_again cs e in
    let n = digits_value 10 cs in
    let h : suc (n - 1) ≡ n = omega (arith, t.1) in
    (n - 1, sym (ap decimal h ∙ t.0))

decimal_said : (cs : List ℕ) → is_decimal cs ≡ true → (n : ℕ) × (cs ≡ decimal n)
decimal_said cs e = grind (arith, either, bytes_eq-Decides, decimal_zero, positive_said)

pub immediate_said : (cs : List ℕ) → is_immediate cs ≡ true → (z : ℤ) × (cs ≡ signed_decimal z)
immediate_said [] e = absurd (false≢true e)
immediate_said (c ∷ cs) e = either (nat_eq c 45)
    (λ m. let p : is_positive cs ≡ true = rw m at e in
    let t = positive_said cs p in
    let k : c ≡ 45 = grind (arith, nat_tests) in
    (negsuc t.0, (λ i. k i ∷ t.1 i)))
    (λ m. let p : is_decimal (c ∷ cs) ≡ true = rw m at e in
    let t = decimal_said (c ∷ cs) p in
    (pos t.0, t.1))

pub offset_said : (cs : List ℕ) → is_offset cs ≡ true → (z : ℤ) × (cs ≡ offset_text z)
offset_said [] e = absurd (false≢true e)
offset_said (c ∷ cs) e = either (nat_eq c 45)
    (λ m. let p : is_positive cs ≡ true = rw m at e in
    let t = positive_said cs p in
    let k : c ≡ 45 = grind (arith, nat_tests) in
    (negsuc t.0, (λ i. k i ∷ t.1 i)))
    (λ m. let p : (nat_eq c 43 && is_decimal cs) ≡ true = rw m at e in
    let t = decimal_said cs ((and_parts (nat_eq c 43) (is_decimal cs) p).1) in
    let f = (and_parts (nat_eq c 43) (is_decimal cs) p).0 in
    let k : c ≡ 43 = grind (arith, nat_tests) in
    (pos t.0, (λ i. k i ∷ t.1 i)))

-- a number's text has the form

either_empty : (cs : List ℕ) → is_decimal cs ≡ true → 0 < length cs
either_empty h0 e = grind (arith, false≢true)

pub decimal_form : (n : ℕ) → is_decimal (decimal n) ≡ true
decimal_form n = grind (arith, decimal_zero, positive_decimal)

decimal_immediate : (cs : List ℕ) → is_decimal cs ≡ true → AllDigits 10 cs → is_immediate cs ≡ true
decimal_immediate h0 e d = grind (arith, false≢true, false, nat_tests, digit_from_value)

pub no_immediate : (cs : List ℕ) → is_immediate cs ≡ false → (z : ℤ) → cs ≡ signed_decimal z → ⊥
no_immediate cs f z e = false≢true (sym f ∙ ap is_immediate e ∙ (grind (arith, decimal_immediate, decimal_form, decimal_digits, negsuc, positive_decimal, suc)))

pub no_offset : (cs : List ℕ) → is_offset cs ≡ false → (z : ℤ) → cs ≡ offset_text z → ⊥
no_offset cs f z e = false≢true (sym f ∙ ap is_offset e ∙ (grind (arith, decimal_form, negsuc, positive_decimal, suc)))

some : (n : ℕ) → 0 < length (decimal n)
some n = either_empty (decimal n) (decimal_form n)

-- the result of `parse` for a number's text

convert : {E : Type 0} (r : Result ℤ E) (P Q : Type 0) (x y : ℤ) → (P → Q) → (Q → P) → x ≡ y → OkIff r P x → OkIff r Q y
convert h0 h1 h2 x y f g e h = grind (arith, Err)

plain : {E : Type 0} (w : Width) (n : ℕ) (r : Result ℤ E) → ParsesSigned w 10 (decimal n) r → OkIff r (FitsSigned w (pos n)) (pos n)
plain w n r h = grind (arith, decimal_value, convert, some, pos, parse_signed_digits, numerals_by_value, tells_digits, decimal_digits)

minus : {E : Type 0} (w : Width) (n : ℕ) (r : Result ℤ E) → ParsesSigned w 10 (45 ∷ decimal (suc n)) r → OkIff r (FitsSigned w (negsuc n)) (negsuc n)
minus w n r h = grind (arith, decimal_value, suc, convert, decimal_digits, some, neg_ℤ, pos, parse_signed_minus, numerals_by_value, tells_digits)

plus : {E : Type 0} (w : Width) (n : ℕ) (r : Result ℤ E) → ParsesSigned w 10 (43 ∷ decimal n) r → OkIff r (FitsSigned w (pos n)) (pos n)
plus w n r h = grind (arith, decimal_value, convert, decimal_digits, some, pos, parse_signed_plus, numerals_by_value, tells_digits)

pub parse_number : {E : Type 0} (w : Width) (z : ℤ) (cs : List ℕ) (r : Result ℤ E) → (cs ≡ signed_decimal z) ⊎ (cs ≡ offset_text z) → ParsesSigned w 10 cs r → OkIff r (FitsSigned w z) z
parse_number w h0 cs r h1 h = grind (arith, plain, pos, plus, negsuc, minus)

pub number_read : {E : Type 0} (w : Width) (z v : ℤ) (r : Result ℤ E) → r ≡ Ok v → OkIff r (FitsSigned w z) z → z ≡ to_z w (of_z w v)
number_read w z v r e h = grind arith

pub number_refused : {E : Type 0} (w : Width) (z : ℤ) (x : E) (r : Result ℤ E) → r ≡ Err x → OkIff r (FitsSigned w z) z → FitsSigned w z → ⊥
number_refused w z x r e h = subst (λ x. OkIff x (FitsSigned w z) z) e h
