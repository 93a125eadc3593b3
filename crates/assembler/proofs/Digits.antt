-- The digits of words.
use Rattle.assembler.proofs.Prelude.{◌≡◌, ◌≢◌, ◌+◌, ◌*◌, ◌/◌, ◌%◌, ◌^◌, ◌<◌, ℕ, zero, suc, List, [], ◌∷◌, ◌++◌, false, true, length, refl, sym, ap, ◌∙◌, arith, append_assoc, length-append, get_or, pow-suc, Result, Ok, Err, and_parts, false≢true, nat_tests, digits_value-lt, digits_value_push, append_cancel_left, without_leading_plus_none, digit_value, AllDigits, ParsesUnsigned, digits_value, hex_digit, hex_digits, wide_text, all_hex_digits, is_hex_digit}
use mathlib.Core.List.{append-nil}

pub length_hex : (k n : ℕ) → length (hex_digits k n) ≡ k
unfolding hex_digits
length_hex zero n = refl
length_hex (suc k) n = omega (arith, length-append (hex_digits k (n / 16)) (hex_digit (n % 16) ∷ []), length_hex k (n / 16))

hex_step : (k n : ℕ) → hex_digits (suc k) n ≡ hex_digits k (n / 16) ++ hex_digit (n % 16) ∷ []
unfolding hex_digits
hex_step k n = refl

digit_again : (c : ℕ) → is_hex_digit c ≡ true → (digit_value c < 16) × (hex_digit (digit_value c) ≡ c)
digit_again c e = (grind (arith, nat_tests), grind (arith, nat_tests))

digit_is : (d : ℕ) → d < 16 → (is_hex_digit (hex_digit d) ≡ true) × (digit_value (hex_digit d) ≡ d)
digit_is d low = (grind (arith, nat_tests), grind (arith, nat_tests))

-- hex digits are the digits of their number

one_more : (front : List ℕ) (c n : ℕ) → is_hex_digit c ≡ true → n ≡ digits_value 16 front → hex_digits (length front) n ≡ front
    → hex_digits (length (front ++ c ∷ [])) (digits_value 16 (front ++ c ∷ [])) ≡ front ++ c ∷ []
one_more front c n e is again =
    let d = digit_again c e in
    let value : digits_value 16 (front ++ c ∷ []) ≡ n * 16 + digit_value c = digits_value_push 16 front c ∙ ap (λ x. x * 16 + digit_value c) (sym is) in
    let long : length (front ++ c ∷ []) ≡ suc (length front) = omega (arith, length-append front (c ∷ [])) in
    let high : (n * 16 + digit_value c) / 16 ≡ n = omega (arith, d.0) in
    let last : (n * 16 + digit_value c) % 16 ≡ digit_value c = omega (arith, d.0) in
    (λ i. hex_digits (long i) (value i)) ∙ hex_step (length front) (n * 16 + digit_value c) ∙ (λ i. hex_digits (length front) (high i) ++ hex_digit (last i) ∷ [])
    ∙ (λ i. again i ++ d.1 i ∷ [])

goes_on : (rest front : List ℕ) → hex_digits (length front) (digits_value 16 front) ≡ front → all_hex_digits rest ≡ true
    → hex_digits (length (front ++ rest)) (digits_value 16 (front ++ rest)) ≡ front ++ rest
goes_on [] front again e = rw append-nil again
goes_on (c ∷ rest) front again e =
    let t = and_parts (is_hex_digit c) (all_hex_digits rest) e in
    let whole = goes_on rest (front ++ c ∷ []) (one_more front c (digits_value 16 front) t.0 refl again) t.1 in
    let h : (front ++ c ∷ []) ++ rest ≡ front ++ c ∷ rest = append_assoc front (c ∷ []) rest in
    rw h at whole

none_again : hex_digits (length {A = ℕ} []) (digits_value 16 []) ≡ []
unfolding hex_digits
none_again = refl

pub hex_again : (ds : List ℕ) → all_hex_digits ds ≡ true → hex_digits (length ds) (digits_value 16 ds) ≡ ds
hex_again ds e = goes_on ds [] none_again e

pub all_digits : (ds : List ℕ) → all_hex_digits ds ≡ true → AllDigits 16 ds
all_digits [] e = tt
all_digits (c ∷ ds) e = let t = and_parts (is_hex_digit c) (all_hex_digits ds) e in ((digit_again c t.0).0, all_digits ds t.1)

-- a number is that of its digits

all_push : (ds : List ℕ) (c : ℕ) → all_hex_digits ds ≡ true → is_hex_digit c ≡ true → all_hex_digits (ds ++ c ∷ []) ≡ true
all_push [] c e f = rw f refl
all_push (d ∷ ds) c e f = let t = and_parts (is_hex_digit d) (all_hex_digits ds) e in rw (t.0, all_push ds c t.1 f) refl

pub hex_all : (k n : ℕ) → all_hex_digits (hex_digits k n) ≡ true
unfolding hex_digits
hex_all zero n = refl
hex_all (suc k) n = all_push (hex_digits k (n / 16)) (hex_digit (n % 16)) (hex_all k (n / 16)) (digit_is (n % 16) (omega arith)).0

pub hex_value : (k n : ℕ) → n < 16 ^ k → digits_value 16 (hex_digits k n) ≡ n
unfolding hex_digits
hex_value zero n low = omega arith
hex_value (suc k) n low =
    let h : n / 16 < 16 ^ k = omega (arith, pow-suc 16 k) in
    let d = digit_is (n % 16) (omega arith) in
    let value = digits_value_push 16 (hex_digits k (n / 16)) (hex_digit (n % 16)) in
    omega (arith, value, d.1, hex_value k (n / 16) h)

pub hex_injective : (k m n : ℕ) → m < 16 ^ k → n < 16 ^ k → hex_digits k m ≡ hex_digits k n → m ≡ n
hex_injective k m n l h e = sym (hex_value k m l) ∙ ap (digits_value 16) e ∙ hex_value k n h

-- the text of a word

pub same_digits : (text ds hs : List ℕ) → text ≡ 48 ∷ 120 ∷ ds → text ≡ 48 ∷ 120 ∷ hs → ds ≡ hs
same_digits text ds hs e f = let h : 48 ∷ 120 ∷ ds ≡ 48 ∷ 120 ∷ hs = sym e ∙ f in append_cancel_left (48 ∷ 120 ∷ []) ds hs h

pub wide_injective : (m n : ℕ) → m < 2 ^ 64 → n < 2 ^ 64 → wide_text m ≡ wide_text n → m ≡ n
wide_injective m n l h e = hex_injective 16 m n l h (append_cancel_left (48 ∷ 120 ∷ []) (hex_digits 16 m) (hex_digits 16 n) e)

pub not_wide : (text ds : List ℕ) → text ≡ 48 ∷ 120 ∷ ds → (length ds ≡ 16 → all_hex_digits ds ≡ false) → (w : ℕ) → text ≡ wide_text w → ⊥
not_wide text ds e fails w f = grind (arith, same_digits, false≢true, length, length_hex, hex_all)

plus_digit : (c : ℕ) → c ≡ 43 → is_hex_digit c ≡ true → ⊥
plus_digit c p e = false≢true (sym (ap is_hex_digit p) ∙ e)

no_plus : (ds : List ℕ) → all_hex_digits ds ≡ true → get_or ds 0 0 ≢ 43
no_plus [] e = omega arith
no_plus (c ∷ ds) e = let t = (and_parts (is_hex_digit c) (all_hex_digits ds) e).0 in λ p. plus_digit c p t

pub parse_hex : {E : Type 0} (ds : List ℕ) (r : Result ℕ E) → all_hex_digits ds ≡ true → length ds ≡ 16 → ParsesUnsigned 64 16 ds r → r ≡ Ok (digits_value 16 ds)
parse_hex ds h0 e long h = grind (arith, Ok, without_leading_plus_none, no_plus, Err, digits_value-lt, all_digits)

pub wide_refused : {E P : Type 0} (ds : List ℕ) (r : Result ℕ E) (x : E) → all_hex_digits ds ≡ true → length ds ≡ 16 → ParsesUnsigned 64 16 ds r → r ≡ Err x → P
wide_refused ds r x all long h is = absurd (let q : Ok (digits_value 16 ds) ≡ Err x = sym (parse_hex ds r all long h) ∙ is in cc)
