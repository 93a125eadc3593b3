-- No longer name and no longer int is at the position of a token.
use Rattle.cel_tokens.proofs.Prelude.{◌≡◌, ℕ, ◌+◌, ◌≤◌, List, [], ◌∷◌, ◌++◌, length, take, refl, arith, Bool, true, false, None, ◌⊎◌, ◌==◌, if◌then◌else◌, drop, nat_tests, name, is_letter, is_name_byte, is_digit_of, is_blank, opens_comment, between, run, int_at, hex_begins, spelled, opening, is_quote, is_raw_prefix, front, front_int, AllPass, IsName, IsDecimal, Takes}
use Rattle.cel_tokens.specs.Lexed as front
use Rattle.cel_tokens.proofs.Runs.{between_off, run_on}

run_prefix : (p : ℕ → Bool) (xs ys : List ℕ) → AllPass p xs → length xs ≤ run p (xs ++ ys)
run_prefix p [] ys a = omega arith
run_prefix p (x ∷ xs) ys a = grind (arith, run_on, run_prefix p xs ys a.1)

no_comment : (b : ℕ) (bs : List ℕ) → (b == 47) ≡ false → opens_comment (b ∷ bs) ≡ false
no_comment b bs h0 = grind arith

-- a letter does not begin a gap
letter_is_token : (b : ℕ) → is_letter b ≡ true → (is_blank b ≡ false) × ((b == 47) ≡ false)
letter_is_token b h = (grind (arith, nat_tests), grind (arith, nat_tests))

letter_is_name_byte : (b : ℕ) → is_letter b ≡ true → is_name_byte b ≡ true
letter_is_name_byte b h = rw h refl

pub begins_here : (b : ℕ) (bs : List ℕ) → (is_blank b ≡ false) × ((b == 47) ≡ false) → between false (b ∷ bs) ≡ 0
begins_here b bs k = between_off false b bs (rw (k.0, no_comment b bs k.1) refl)

name_front : (signed : Bool) (b : ℕ) (bs : List ℕ) → is_letter b ≡ true → opening (b ∷ bs) ≡ None
    → front signed (b ∷ bs) ≡ front.word (run is_name_byte (b ∷ bs)) (name (take (run is_name_byte (b ∷ bs)) (b ∷ bs)))
unfolding front
name_front signed b bs l o = grind (arith, begins_here, letter_is_token)

pub no_longer_name : (signed : Bool) (first rest : List ℕ) → IsName first → opening (first ++ rest) ≡ None → Takes signed first rest
no_longer_name signed [] rest a o = absurd a
no_longer_name signed (b ∷ bs) rest a o =
    (run is_name_byte (b ∷ (bs ++ rest)), _, name_front signed b (bs ++ rest) a.0 o, run_prefix is_name_byte (b ∷ bs) rest (letter_is_name_byte b a.0, a.1))

pub digit_is_token : (b : ℕ) → is_digit_of 10 b ≡ true → (is_blank b ≡ false) × ((b == 47) ≡ false)
digit_is_token b h = (grind (arith, nat_tests), grind (arith, nat_tests))

-- a digit does not begin a text literal or a name
digit_is_no_letter : (b : ℕ) → is_digit_of 10 b ≡ true → (is_quote b ≡ false) × (is_raw_prefix b ≡ false) × (is_letter b ≡ false)
digit_is_no_letter b h = (grind (arith, nat_tests), grind (arith, nat_tests), grind (arith, nat_tests))

pub no_text : (b : ℕ) (bs : List ℕ) → is_quote b ≡ false → is_raw_prefix b ≡ false → opening (b ∷ bs) ≡ None
no_text b bs h0 h1 = grind arith

int_front_is : (signed : Bool) (b : ℕ) (bs : List ℕ) → is_digit_of 10 b ≡ true → front signed (b ∷ bs) ≡ front_int false 0 (b ∷ bs)
unfolding front
int_front_is signed b bs d = grind (arith, digit_is_no_letter, begins_here, digit_is_token, no_text)

no_hex : (b c : ℕ) (bs : List ℕ) → (c == 120) ≡ false → hex_begins (b ∷ c ∷ bs) ≡ false
no_hex b c bs h0 = grind arith

either_way : (h : Bool) (m n : ℕ × ℕ) → 1 ≤ m.0 → 1 ≤ n.0 → 1 ≤ (if h then m else n).0
either_way h m n h0 h1 = grind arith

pub int_len : (b : ℕ) (bs rest : List ℕ) → is_digit_of 10 b ≡ true → AllPass (is_digit_of 10) bs → length (b ∷ bs) ≤ (int_at ((b ∷ bs) ++ rest)).0
int_len b [] rest d a =
    either_way (hex_begins (b ∷ rest)) ((spelled 16 (drop 2 (b ∷ rest))).0 + 2, (spelled 16 (drop 2 (b ∷ rest))).1) (spelled 10 (b ∷ rest)) (omega arith) (run_prefix (is_digit_of 10) (b ∷ []) rest (d, tt))
int_len b (c ∷ bs) rest d a =
    rw (no_hex b c (bs ++ rest) (grind (arith, nat_tests))) (run_prefix (is_digit_of 10) (b ∷ c ∷ bs) rest (d, a))

pub no_longer_int : (signed : Bool) (first rest : List ℕ) → IsDecimal first → (front signed (first ++ rest) ≡ front.wide_int 0) ⊎ Takes signed first rest
no_longer_int signed first rest a = grind (arith, int_front_is, int_len)

pub hex_len : (d : ℕ) (ds rest : List ℕ) → AllPass (is_digit_of 16) (d ∷ ds) → length (48 ∷ 120 ∷ d ∷ ds) ≤ (int_at (48 ∷ 120 ∷ d ∷ (ds ++ rest))).0
hex_len d ds rest a =
    let r = run_prefix (is_digit_of 16) (d ∷ ds) rest a in
    rw (a.0) (omega (arith, r))

pub no_longer_hex : (signed : Bool) (d : ℕ) (ds rest : List ℕ) → AllPass (is_digit_of 16) (d ∷ ds)
    → (front signed (48 ∷ 120 ∷ d ∷ (ds ++ rest)) ≡ front.wide_int 0) ⊎ Takes signed (48 ∷ 120 ∷ d ∷ ds) rest
no_longer_hex signed d ds rest a = grind (arith, int_front_is, hex_len)
