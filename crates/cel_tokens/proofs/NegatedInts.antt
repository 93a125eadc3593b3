-- A minus and the int after it are one token if the minus may be a sign.
use Rattle.cel_tokens.proofs.Prelude.{◌≡◌, ℕ, suc, ◌+◌, ◌^◌, ◌<◌, ◌≤◌, List, [], ◌∷◌, ◌++◌, length, take, drop, refl, sym, ◌∙◌, ap, subst, arith, Bool, true, false, ◌⊎◌, ◌&&◌, if◌then◌else◌, ℤ, pos, neg_ℤ, nat_tests, cases_lt, length-take-le, length-drop, take-append-drop, Minus, int, mark, is_digit_of, run, between, number, int_at, int_of, digit_begins, hex_begins, spelled, fits64, front, int_front, AllPass, IsDecimal, Spells, IsInt, FollowsSign, decimal, hex}
use mathlib.Core.Logic.{inr}
use Rattle.cel_tokens.specs.Lexed as front
use Rattle.cel_tokens.proofs.Runs.{run_on, run_within}
use Rattle.cel_tokens.proofs.NoLonger.{begins_here, digit_is_token, no_text, int_len, hex_len}
use Rattle.cel_tokens.proofs.LongestGap.{goes_on, is_longest_gap}

-- ---- the int at the front is the longest

passes_by : (p : ℕ → Bool) (x : ℕ) (xs : List ℕ) → AllPass p (take (run p xs) xs) → (t : Bool) → p x ≡ t → AllPass p (take (if t then run p xs + 1 else 0) (x ∷ xs))
passes_by p x xs h0 t h1 = grind arith

-- all bytes of a run pass
pub front_passes : (p : ℕ → Bool) (xs : List ℕ) → AllPass p (take (run p xs) xs)
unfolding run
front_passes p [] = tt
front_passes p (x ∷ xs) = passes_by p x xs (front_passes p xs) (p x) refl

pub taken : (p : ℕ → Bool) (x : ℕ) (xs : List ℕ) → p x ≡ true → take (run p (x ∷ xs)) (x ∷ xs) ≡ x ∷ take (run p xs) xs
taken p x xs h = grind (arith, run_on)

decimal_here : (b : ℕ) (bs : List ℕ) → is_digit_of 10 b ≡ true → Spells (take (run (is_digit_of 10) (b ∷ bs)) (b ∷ bs)) (number 10 (take (run (is_digit_of 10) (b ∷ bs)) (b ∷ bs)))
decimal_here b bs d =
    let e = taken (is_digit_of 10) b bs d in
    decimal _ (subst IsDecimal (sym e) (d, front_passes (is_digit_of 10) bs))

hex_here : (d : ℕ) (ds : List ℕ) → is_digit_of 16 d ≡ true
    → Spells (take (run (is_digit_of 16) (d ∷ ds) + 2) (48 ∷ 120 ∷ d ∷ ds)) (number 16 (take (run (is_digit_of 16) (d ∷ ds)) (d ∷ ds)))
hex_here d ds h =
    let q : run (is_digit_of 16) (d ∷ ds) + 2 ≡ suc (suc (run (is_digit_of 16) (d ∷ ds))) = omega arith in
    let e = taken (is_digit_of 16) d ds h in
    rw (q, e) (hex d (take (run (is_digit_of 16) ds) ds) (h, front_passes (is_digit_of 16) ds))

both : (x y : Bool) → (x && y) ≡ true → (x ≡ true) × (y ≡ true)
both x y h0 = grind arith

spells_by : (bytes : List ℕ) → digit_begins bytes ≡ true → (t : Bool) → hex_begins bytes ≡ t
    → Spells (take (if t then ((spelled 16 (drop 2 bytes)).0 + 2, (spelled 16 (drop 2 bytes)).1) else spelled 10 bytes).0 bytes) (if t then ((spelled 16 (drop 2 bytes)).0 + 2, (spelled 16 (drop 2 bytes)).1) else spelled 10 bytes).1
spells_by bytes d true t = grind (arith, both, nat_tests, hex_here)
spells_by bytes d false t = grind (arith, decimal_here)

within_by : (bytes : List ℕ) (t : Bool) → hex_begins bytes ≡ t → (if t then ((spelled 16 (drop 2 bytes)).0 + 2, (spelled 16 (drop 2 bytes)).1) else spelled 10 bytes).0 ≤ length bytes
within_by bytes true t = grind (arith, run_within)
within_by bytes false t = run_within (is_digit_of 10) bytes

pub no_longer : {first : List ℕ} {value : ℕ} → Spells first value → (rest : List ℕ) → length first ≤ (int_at (first ++ rest)).0
no_longer (decimal [] a) rest = absurd a
no_longer (decimal (b ∷ bs) a) rest = int_len b bs rest a.0 a.1
no_longer (hex d ds a) rest = hex_len d ds rest a

none_longer : (bytes : List ℕ) (m other : ℕ) → m ≤ length bytes → Spells (take m bytes) other → m ≤ (int_at bytes).0
none_longer bytes m other h s =
    let n = subst (λ (xs : List ℕ). length (take m bytes) ≤ (int_at xs).0) (take-append-drop m bytes) (no_longer s (drop m bytes)) in
    let l = length-take-le m bytes h in
    omega (arith, n, l)

pub int_is : (bytes : List ℕ) → digit_begins bytes ≡ true → IsInt bytes (int_at bytes).0 (int_at bytes).1
int_is bytes d = (within_by bytes (hex_begins bytes) refl, spells_by bytes d (hex_begins bytes) refl, none_longer bytes)

-- ---- the int is unique

pub same_value : {xs : List ℕ} {m n : ℕ} → Spells xs m → Spells xs n → m ≡ n
same_value h0 h1 = grind arith

pub int_digit : (bytes : List ℕ) (n v : ℕ) → IsInt bytes n v → digit_begins bytes ≡ true
int_digit bytes n v i = subst (λ (xs : List ℕ). digit_begins xs ≡ true) (take-append-drop n bytes) (grind arith)

-- ---- the position of the digits

pub stops_at_digit : (bytes : List ℕ) → digit_begins bytes ≡ true → between false bytes ≡ 0
stops_at_digit bytes d = grind (arith, begins_here, digit_is_token)

pub gap_is : (bytes : List ℕ) (gap n v : ℕ) → FollowsSign bytes gap n v → between false bytes ≡ gap
gap_is bytes gap n v f = grind (arith, goes_on, stops_at_digit, int_digit, length-drop)

-- ---- the token that a minus begins

behind_minus : (bytes : List ℕ) → drop (between false bytes + 1) (45 ∷ bytes) ≡ drop (between false bytes) bytes
behind_minus bytes = grind arith

abbrev signed_front : ℕ → List ℕ → front.Lexed
signed_front gap rest = int_front (gap + 1) (int_at rest).0 (int_of true (int_at rest).1)

front_minus : (signed : Bool) (bytes : List ℕ) → front signed (45 ∷ bytes) ≡ (if signed && digit_begins (drop (between false bytes) bytes) then signed_front (between false bytes) (drop (between false bytes) bytes) else front.word 1 (mark Minus))
unfolding front
front_minus signed bytes = grind (arith, begins_here, no_text, behind_minus)

pub plain_minus : (bytes : List ℕ) → front false (45 ∷ bytes) ≡ front.word 1 (mark Minus)
plain_minus bytes = front_minus false bytes

signed_at : (bytes rest : List ℕ) (gap : ℕ) → between false bytes ≡ gap → drop gap bytes ≡ rest → digit_begins rest ≡ true → front true (45 ∷ bytes) ≡ signed_front gap rest
signed_at bytes rest gap g r d = front_minus true bytes ∙ (rw (g, r, d) refl)

pub sign_front : (bytes : List ℕ) (gap n v : ℕ) → FollowsSign bytes gap n v → front true (45 ∷ bytes) ≡ int_front (gap + 1) n (int_of true v)
sign_front bytes gap n v f = grind (arith, int_digit, same_value, int_is, signed_at, gap_is)

-- ---- 64 bits

fits : (v : ℕ) → v ≤ 2 ^ 63 → fits64 (neg_ℤ (pos v)) ≡ true
fits v h0 = grind arith

is_wide : (v : ℕ) → 2 ^ 63 < v → fits64 (neg_ℤ (pos v)) ≡ false
is_wide v h0 = grind arith

negated : (bytes : List ℕ) (gap n v : ℕ) → FollowsSign bytes gap n v → v ≤ 2 ^ 63 → front true (45 ∷ bytes) ≡ front.word (gap + 1 + n) (int (neg_ℤ (pos v)))
negated bytes gap n v f h = sign_front bytes gap n v f ∙ (rw (fits v h) refl)

too_wide : (bytes : List ℕ) (gap n v : ℕ) → FollowsSign bytes gap n v → 2 ^ 63 < v → front true (45 ∷ bytes) ≡ front.wide_int (gap + 1)
too_wide bytes gap n v f h = sign_front bytes gap n v f ∙ (rw (is_wide v h) refl)

-- ---- the front, by cases

-- the token that a minus begins: an int with its sign, one that is too wide, or a mark
abbrev Begun : List ℕ → front.Lexed → Type 0
Begun bytes x =
    ((gap n v : ℕ) × FollowsSign bytes gap n v × (v ≤ 2 ^ 63) × (x ≡ front.word (gap + 1 + n) (int (neg_ℤ (pos v))))) ⊎ (((gap n v : ℕ) × FollowsSign bytes gap n v × (2 ^ 63 < v) × (x ≡ front.wide_int (gap + 1))) ⊎ (x ≡ front.word 1 (mark Minus)))

begun_int : (bytes : List ℕ) (gap n v : ℕ) → FollowsSign bytes gap n v → Begun bytes (front true (45 ∷ bytes))
begun_int bytes gap n v f = grind (arith, cases_lt, too_wide, negated)

begun_by : (bytes : List ℕ) (t : Bool) → digit_begins (drop (between false bytes) bytes) ≡ t → Begun bytes (front true (45 ∷ bytes))
begun_by bytes true t =
    let g = is_longest_gap bytes in
    begun_int bytes (between false bytes) _ _ (g.0, g.1, int_is (drop (between false bytes) bytes) t)
begun_by bytes false t = inr (inr (front_minus true bytes ∙ (rw t refl)))

begun : (bytes : List ℕ) → Begun bytes (front true (45 ∷ bytes))
begun bytes = begun_by bytes (digit_begins (drop (between false bytes) bytes)) refl

abbrev Negated : List ℕ → ℕ → ℤ → Type 0
Negated bytes len z = (gap n value : ℕ) × FollowsSign bytes gap n value × (len ≡ 1 + gap + n) × (z ≡ neg_ℤ (pos value)) × (value ≤ 2 ^ 63)

abbrev Wide : List ℕ → ℕ → Type 0
Wide bytes before = (gap n value : ℕ) × FollowsSign bytes gap n value × (before ≡ 1 + gap) × (2 ^ 63 < value)

is_negated : (bytes : List ℕ) (x : front.Lexed) (len : ℕ) (z : ℤ) → Begun bytes x → x ≡ front.word len (int z) → Negated bytes len z
is_negated bytes x len z h0 h1 = grind arith

is_too_wide : (bytes : List ℕ) (x : front.Lexed) (before : ℕ) → Begun bytes x → x ≡ front.wide_int before → Wide bytes before
is_too_wide bytes x before h0 h1 = grind arith

wide_back : (bytes : List ℕ) (before : ℕ) → Wide bytes before → front true (45 ∷ bytes) ≡ front.wide_int before
wide_back bytes before (gap, n, v, f, l, h) =
    let q : gap + 1 ≡ before = omega (arith, l) in
    too_wide bytes gap n v f h ∙ ap front.wide_int q

pub negated_int : (bytes : List ℕ) (len : ℕ) (z : ℤ)
    → (front true (45 ∷ bytes) ≡ front.word len (int z) → Negated bytes len z) × (Negated bytes len z → front true (45 ∷ bytes) ≡ front.word len (int z))
negated_int bytes len z = (is_negated bytes (front true (45 ∷ bytes)) len z (begun bytes), (grind (arith, negated)))

pub wide_int : (bytes : List ℕ) (before : ℕ) → (front true (45 ∷ bytes) ≡ front.wide_int before → Wide bytes before) × (Wide bytes before → front true (45 ∷ bytes) ≡ front.wide_int before)
wide_int bytes before = (is_too_wide bytes (front true (45 ∷ bytes)) before (begun bytes), wide_back bytes before)
