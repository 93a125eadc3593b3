-- The definition of the front, without cases on the text.
use Rattle.wide_tokens.proofs.Prelude.{◌≡◌, ℕ, suc, ◌+◌, ◌-◌, ◌<◌, ◌≤◌, List, [], ◌∷◌, length, get_or, refl, arith, Bool, true, false, if◌then◌else◌, nat_lt, ◌==◌, Result, OnErr, Option, Some, nat_tests, between, IsUtf8, drop, IsOpened, WideEndsText, Opening, opening, opening_len, quote_at, raw_at, is_quote, is_raw_prefix, is_bytes_prefix, front, front_word}
use Rattle.cel_tokens.proofs.Contents.{rest_utf8, quote_ascii}
use Rattle.wide_tokens.specs.Lexed.{over, space}

pub front_nil : (signed : Bool) (xs : List ℕ) → length xs ≤ 0 → front signed xs ≡ over
unfolding front
front_nil signed xs h0 = grind arith

pub front_is : (signed : Bool) (xs : List ℕ) → 0 < length xs
    → front signed xs ≡ (if nat_lt 0 (between false xs) then space (between false xs) else front_word signed (get_or xs 0 0) xs (opening xs))
unfolding front
front_is signed xs h0 = grind arith

pub front_over : (signed : Bool) (xs : List ℕ) (b : Bool) → b ≡ (length xs == 0) → b ≡ true → front signed xs ≡ over
front_over signed xs b e t = front_nil signed xs (grind (arith, nat_tests))

pub some_left : (xs : List ℕ) (b : Bool) → b ≡ (length xs == 0) → b ≡ false → 0 < length xs
some_left xs b e t = grind (arith, nat_tests)

pub front_space : (signed : Bool) (xs : List ℕ) (n : ℕ) → 0 < length xs → n ≡ between false xs → 0 < n → front signed xs ≡ space n
front_space signed xs n h e l =
    let t : nat_lt 0 (between false xs) ≡ true = grind (arith, nat_tests) in
    rw (front_is signed xs h, t, e) refl

pub front_else : (signed : Bool) (xs : List ℕ) (n : ℕ) → 0 < length xs → n ≡ between false xs → n ≤ 0 → front signed xs ≡ front_word signed (get_or xs 0 0) xs (opening xs)
front_else signed xs n h e l =
    let t : nat_lt 0 (between false xs) ≡ false = grind (arith, nat_tests) in
    rw (front_is signed xs h, t) refl

-- the bytes of an opening's quotes at the front
abbrev Quotes : List ℕ → Opening → Type 0
Quotes rest o =
    (is_quote o.quote ≡ true) × ((if o.long then 3 else 1) ≤ length rest) × (get_or rest ((if o.long then 3 else 1) - 1) 0 ≡ o.quote)

quotes_at : (b r : Bool) (rest : List ℕ) (o : Opening) → quote_at b r rest ≡ Some o → Quotes rest o × (o.bytes ≡ b) × (o.raw ≡ r)
quotes_at b r rest o e = grind (arith, nat_tests)

-- a prefix before quotes of this length
step : (x : ℕ) (rest : List ℕ) (k m v : ℕ) → 1 ≤ k → m ≡ suc k → get_or rest (k - 1) 0 ≡ v → get_or (x ∷ rest) (m - 1) 0 ≡ v
step x rest k m v h e g = let f : m - 1 ≡ suc (k - 1) = omega (arith, h, e) in rw f g

-- no prefix
stay : (rest : List ℕ) (k m v : ℕ) → m ≡ k → get_or rest (k - 1) 0 ≡ v → get_or rest (m - 1) 0 ≡ v
stay rest k m v e g = rw e g

long_some : (b : Bool) → 1 ≤ (if b then 3 else 1)
long_some true = omega arith
long_some false = omega arith

-- the bytes of an opening's quotes at the front, after its prefix for a raw literal
abbrev RawQuotes : List ℕ → Opening → Bool → Type 0
RawQuotes rest o b =
    (is_quote o.quote ≡ true) × ((if o.raw then 1 else 0) + (if o.long then 3 else 1) ≤ length rest)
    × (get_or rest ((if o.raw then 1 else 0) + (if o.long then 3 else 1) - 1) 0 ≡ o.quote) × (o.bytes ≡ b)

raw_case : (t b : Bool) (x : ℕ) (rest : List ℕ) (o : Opening) → (if t then quote_at b true rest else quote_at b false (x ∷ rest)) ≡ Some o → RawQuotes (x ∷ rest) o b
raw_case true b x rest o e =
    let q = quotes_at b true rest o e in
    let s = long_some o.long in
    rw (q.2) (q.0.0, omega (arith, q.0.1), step x rest (if o.long then 3 else 1) (1 + (if o.long then 3 else 1)) o.quote s (omega arith) q.0.2, q.1)
raw_case false b x rest o e =
    let q = quotes_at b false (x ∷ rest) o e in
    rw (q.2) (q.0.0, omega (arith, q.0.1), stay (x ∷ rest) (if o.long then 3 else 1) (0 + (if o.long then 3 else 1)) o.quote (omega arith) q.0.2, q.1)

raw_quotes : (b : Bool) (rest : List ℕ) (o : Opening) → raw_at b rest ≡ Some o → RawQuotes rest o b
raw_quotes b [] o e = absurd cc
raw_quotes b (x ∷ rest) o e = raw_case (is_raw_prefix x) b x rest o e

opened_case : (t : Bool) (x : ℕ) (rest : List ℕ) (o : Opening) → (if t then raw_at true rest else raw_at false (x ∷ rest)) ≡ Some o → IsOpened (x ∷ rest) o
opened_case true x rest o e =
    let q = raw_quotes true rest o e in
    let s = long_some o.long in
    let k = (if o.raw then 1 else 0) + (if o.long then 3 else 1) in
    rw (q.3) (q.0, omega (arith, q.1), step x rest k (1 + (if o.raw then 1 else 0) + (if o.long then 3 else 1)) o.quote (omega (arith, s)) (omega arith) q.2)
opened_case false x rest o e =
    let q = raw_quotes false (x ∷ rest) o e in
    let k = (if o.raw then 1 else 0) + (if o.long then 3 else 1) in
    rw (q.3) (q.0, omega (arith, q.1), stay (x ∷ rest) k (0 + (if o.raw then 1 else 0) + (if o.long then 3 else 1)) o.quote (omega arith) q.2)

pub opened_is : (bytes : List ℕ) (o : Opening) → opening bytes ≡ Some o → IsOpened bytes o
opened_is [] o e = absurd cc
opened_is (x ∷ rest) o e = opened_case (is_bytes_prefix x) x rest o e

-- the bytes after the opening of a text literal are UTF-8
pub opened : (bytes : List ℕ) (o : Opening) → IsOpened bytes o → WideEndsText bytes → IsUtf8 (drop (opening_len o) bytes)
opened bytes o q u =
    let some : 1 ≤ opening_len o = grind arith in
    let n : opening_len o - 1 + 1 ≡ opening_len o = omega (arith, some) in
    let a = rest_utf8 u.0 bytes (opening_len o - 1) u.1 (omega (arith, q.1, some)) (omega (arith, q.2, quote_ascii o.quote q.0)) in
    rw n at a

-- a property that holds for both results
pub in_any_case : {T E P : Type 0} (r : Result T E) → P → OnErr r P
in_any_case r h0 = grind arith
