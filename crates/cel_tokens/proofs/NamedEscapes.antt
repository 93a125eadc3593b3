-- The computed code point of an escape is the one that its bytes denote.
use Rattle.cel_tokens.proofs.Prelude.{◌≡◌, ℕ, suc, ◌+◌, ◌*◌, ◌≤◌, List, [], ◌∷◌, ◌++◌, length, take, drop, refl, sym, ◌∙◌, ap, subst, arith, Bool, true, false, Option, Some, None, ◌⊎◌, ◌==◌, ◌&&◌, ◌||◌, if◌then◌else◌, nat_lt, option_map, option_and_then, digit_value, nat_tests, length-take, length-take-le, take-append-drop, take-append_seam, is_digit_of, run, number, number_from, escape, simple, numeric, code_point, is_code_point, AllPass, AreDigits, EscapeNames, bell, backspace, form_feed, line_feed, carriage_return, tab, vertical_tab, backslash, question_mark, double_quote, single_quote, back_quote, two_hex, four_hex, eight_hex, octal}
use Rattle.cel_tokens.proofs.Runs.{run_on, run_within}

-- ---- digits

run_nil : (p : ℕ → Bool) → run p [] ≡ 0
unfolding run
run_nil p = refl

run_passes : (p : ℕ → Bool) (xs : List ℕ) → AllPass p xs → run p xs ≡ length xs
run_passes p [] a = run_nil p
run_passes p (x ∷ xs) a = grind (arith, run_on, run_passes p xs a.1)

pub all_pass : (p : ℕ → Bool) (xs : List ℕ) → run p xs ≡ length xs → AllPass p xs
unfolding run
all_pass p [] e = tt
all_pass p (x ∷ xs) e = ((grind arith), all_pass p xs (grind arith))

-- ---- the results of a number of digits

-- the digits at the front, and the escape of this length that they give
abbrev Given : ℕ → ℕ → ℕ → List ℕ → ℕ × ℕ → Type 0
Given base count len bytes x =
    (count ≤ length bytes) × AreDigits base count (take count bytes) × (is_code_point (number base (take count bytes)) ≡ true) × (x ≡ (number base (take count bytes), len))

given_run : (base count len : ℕ) (bytes : List ℕ) (x : ℕ × ℕ) (r : ℕ) → run (is_digit_of base) (take count bytes) ≡ r → (t : Bool) → (r == count) ≡ t → option_map (λ m. (m, len)) (option_and_then code_point (if t then Some (number base (take count bytes)) else None)) ≡ Some x → Given base count len bytes x
given_run base count len bytes x r e true t f = grind (arith, nat_tests, run_within, length-take, all_pass)
given_run base count len bytes x r e false t f = absurd cc

given : (base count len : ℕ) (bytes : List ℕ) (x : ℕ × ℕ) → numeric base count len bytes ≡ Some x → Given base count len bytes x
given base count len bytes x e = given_run base count len bytes x (run (is_digit_of base) (take count bytes)) refl (run (is_digit_of base) (take count bytes) == count) refl e

gives : (base count len : ℕ) (ds rest : List ℕ) → AreDigits base count ds → is_code_point (number base ds) ≡ true → numeric base count len (ds ++ rest) ≡ Some (number base ds, len)
gives base count len ds rest d c = grind (arith, take-append_seam, run_passes)

-- ---- the text after a backslash denotes the code point

abbrev Named : List ℕ → ℕ × ℕ → Type 0
Named bytes x = (x.1 ≤ length bytes) × EscapeNames (take x.1 bytes) x.0

abbrev NamedIf : List ℕ → Option (ℕ × ℕ) → Type 0
NamedIf bytes o = (x : ℕ × ℕ) → o ≡ Some x → Named bytes x

-- one letter
one : (k code : ℕ) (bs : List ℕ) → EscapeNames (k ∷ []) code → NamedIf (k ∷ bs) (Some (code, 1))
one k code bs h0 = grind arith

-- the result after a test, for either outcome
choose : (bytes : List ℕ) (t : Bool) (o p : Option (ℕ × ℕ)) → (t ≡ true → NamedIf bytes o) → NamedIf bytes p → NamedIf bytes (if t then o else p)
choose bytes true o p f g = f refl
choose bytes false o p f g = g

-- the result after two alternatives, for either outcome
choose_either : (bytes : List ℕ) (t more : Bool) (o p : Option (ℕ × ℕ)) → (t ≡ true → NamedIf bytes o)
    → NamedIf bytes (if more then o else p) → NamedIf bytes (if t || more then o else p)
choose_either bytes true more o p f g = f refl
choose_either bytes false more o p f g = g

-- a byte that is this letter
read_as : (b k : ℕ) (bs : List ℕ) (o : Option (ℕ × ℕ)) → NamedIf (k ∷ bs) o → (b == k) ≡ true → NamedIf (b ∷ bs) o
read_as b k bs o i t = subst (λ c. NamedIf (c ∷ bs) o) (sym (grind (arith, nat_tests))) i

-- one letter, or the rest of the table
letter : (b k code : ℕ) (bs : List ℕ) (o : Option (ℕ × ℕ)) → EscapeNames (k ∷ []) code → NamedIf (b ∷ bs) o → NamedIf (b ∷ bs) (if b == k then Some (code, 1) else o)
letter b k code bs o n i = choose (b ∷ bs) (b == k) _ o (read_as b k bs _ (one k code bs n)) i

-- a mark that represents itself
itself : (b k : ℕ) (bs : List ℕ) → EscapeNames (k ∷ []) k → (b == k) ≡ true → NamedIf (b ∷ bs) (Some (b, 1))
itself b k bs n t = subst (λ c. NamedIf (c ∷ bs) (Some (c, 1))) (sym (grind (arith, nat_tests))) (one k k bs n)

simple_named : (b : ℕ) (bs : List ℕ) → NamedIf (b ∷ bs) (simple b)
simple_named b bs =
    letter b 97 7 bs _ bell
    (letter b 98 8 bs _ backspace
    (letter b 102 12 bs _ form_feed
    (letter b 110 10 bs _ line_feed
    (letter b 114 13 bs _ carriage_return
    (letter b 116 9 bs _ tab
    (letter b 118 11 bs _ vertical_tab
    (choose_either (b ∷ bs) (b == 92) _ _ None (itself b 92 bs backslash)
    (choose_either (b ∷ bs) (b == 63) _ _ None (itself b 63 bs question_mark)
    (choose_either (b ∷ bs) (b == 34) _ _ None (itself b 34 bs double_quote)
    (choose_either (b ∷ bs) (b == 39) _ _ None (itself b 39 bs single_quote)
    (choose (b ∷ bs) (b == 96) _ None (itself b 96 bs back_quote) (λ x e. absurd cc))))))))))))

-- a letter and `count` hex digits
hex_named : (b count : ℕ) (bs : List ℕ) → ((ds : List ℕ) → AreDigits 16 count ds → is_code_point (number 16 ds) ≡ true → EscapeNames (b ∷ ds) (number 16 ds))
    → NamedIf (b ∷ bs) (numeric 16 count (suc count) bs)
hex_named b count bs names x e = grind (arith, given)

octal_digit : (b : ℕ) → is_digit_of 8 b ≡ true → digit_value b ≤ 7
octal_digit b h = grind (arith, nat_tests)

three_digits : (a b c : ℕ) → number 8 (a ∷ b ∷ c ∷ []) ≡ ((0 + digit_value a) * 8 + digit_value b) * 8 + digit_value c
unfolding number_from
three_digits a b c = refl

octal_named : (b : ℕ) (bs : List ℕ) → (nat_lt 47 b && nat_lt b 52) ≡ true → NamedIf (b ∷ bs) (numeric 8 3 3 (b ∷ bs))
octal_named b bs h x e =
    let g = given 8 3 3 (b ∷ bs) x e in
    subst (Named (b ∷ bs)) (sym g.3) (g.0, octal (take 3 (b ∷ bs)) g.1 (grind (arith, three_digits, nat_tests, octal_digit)))

escape_named : (bytes : List ℕ) → NamedIf bytes (escape bytes)
unfolding escape
escape_named [] = λ x e. absurd cc
escape_named (b ∷ bs) =
    choose (b ∷ bs) ((b == 120) || (b == 88)) _ _ (λ t. hex_named b 2 bs (λ ds d c. two_hex b ds (grind arith) d))
    (choose (b ∷ bs) (b == 117) _ _ (read_as b 117 bs _ (hex_named 117 4 bs four_hex))
    (choose (b ∷ bs) (b == 85) _ _ (read_as b 85 bs _ (hex_named 85 8 bs eight_hex))
    (choose (b ∷ bs) (nat_lt 47 b && nat_lt b 52) _ _ (octal_named b bs) (simple_named b bs))))

-- ---- what is denoted is computed

abbrev Computed : List ℕ → ℕ → Type 0
Computed written code = (rest : List ℕ) → escape (written ++ rest) ≡ Some (code, length written)

two_digits : (a b : ℕ) → number 16 (a ∷ b ∷ []) ≡ (0 + digit_value a) * 16 + digit_value b
unfolding number_from
two_digits a b = refl

two_code : (ds : List ℕ) → AreDigits 16 2 ds → is_code_point (number 16 ds) ≡ true
two_code (a ∷ b ∷ []) d = grind (arith, two_digits, nat_tests)
two_code _ d = let l = d.0 in absurd (omega (arith, l))

abbrev with_length : ℕ → ℕ → Option (ℕ × ℕ)
with_length code n = Some (code, n)

same_length : (code n m : ℕ) → n ≡ m → with_length code n ≡ with_length code m
same_length code n m e = ap (with_length code) e

two_computed : (x : ℕ) (ds : List ℕ) → (x ≡ 120) ⊎ (x ≡ 88) → AreDigits 16 2 ds → Computed (x ∷ ds) (number 16 ds)
unfolding escape
two_computed x ds h d rest = let g = gives 16 2 3 ds rest d (two_code ds d) in grind (arith, g)

first_octal : (a b c : ℕ) → (digit_value a * 8 + digit_value b) * 8 + digit_value c ≤ 255 → is_digit_of 8 a ≡ true → (48 ≤ a) × (a ≤ 51)
first_octal a b c h d = let v : digit_value a ≤ 3 = omega (arith, h) in (grind (arith, nat_tests), grind (arith, nat_tests))

octal_here : (b : ℕ) (bs : List ℕ) → (48 ≤ b) × (b ≤ 51) → escape (b ∷ bs) ≡ numeric 8 3 3 (b ∷ bs)
unfolding escape
octal_here b bs h0 = grind arith

octal_computed : (ds : List ℕ) → AreDigits 8 3 ds → number 8 ds ≤ 255 → Computed ds (number 8 ds)
octal_computed (a ∷ b ∷ c ∷ []) d h rest =
    let n = three_digits a b c in
    octal_here a (b ∷ c ∷ rest) (first_octal a b c (omega (arith, n, h)) d.1.0) ∙ gives 8 3 3 (a ∷ b ∷ c ∷ []) rest d (grind (arith, nat_tests))
octal_computed _ d h rest = let l = d.0 in absurd (omega (arith, l))

computed : {written : List ℕ} {code : ℕ} → EscapeNames written code → Computed written code
unfolding escape
computed (two_hex x ds h d) rest = two_computed x ds h d rest
computed (four_hex ds d c) rest = let l = d.0 in gives 16 4 5 ds rest d c ∙ same_length (number 16 ds) 5 (length (117 ∷ ds)) (omega (arith, l))
computed (eight_hex ds d c) rest = let l = d.0 in gives 16 8 9 ds rest d c ∙ same_length (number 16 ds) 9 (length (85 ∷ ds)) (omega (arith, l))
computed (octal ds d h) rest = octal_computed ds d h rest
computed _ rest = refl

back : (bytes : List ℕ) (code len : ℕ) → (len ≤ length bytes) × EscapeNames (take len bytes) code → escape bytes ≡ Some (code, len)
back bytes code len h =
    ap escape (sym (take-append-drop len bytes)) ∙ (computed h.1 (drop len bytes) ∙ same_length code (length (take len bytes)) len (length-take-le len bytes h.0))

pub names_its_code_point : (bytes : List ℕ) (code len : ℕ) → (escape bytes ≡ Some (code, len) → (len ≤ length bytes) × EscapeNames (take len bytes) code) × ((len ≤ length bytes) × EscapeNames (take len bytes) code → escape bytes ≡ Some (code, len))
names_its_code_point bytes code len = (escape_named bytes (code, len), back bytes code len)
