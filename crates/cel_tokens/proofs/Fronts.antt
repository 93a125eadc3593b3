-- The definition of the front, without cases on the text.
use Rattle.cel_tokens.proofs.Prelude.{◌≡◌, ℕ, ◌<◌, ◌≤◌, List, length, get_or, refl, arith, Bool, true, false, if◌then◌else◌, nat_lt, ◌==◌, Result, OnErr, nat_tests, between, IsUtf8, drop, IsQuoted, EndsText, opening, opening_len, front, front_word}
use Rattle.cel_tokens.proofs.Contents.{rest_utf8, quote_ascii}
use Rattle.cel_tokens.specs.Lexed.{over, space}

pub front_nil : (signed : Bool) (xs : List ℕ) → length xs ≤ 0 → front signed xs ≡ over
unfolding front
front_nil signed xs h0 = grind arith

pub front_is : (signed : Bool) (xs : List ℕ) → 0 < length xs
    → front signed xs ≡ (if nat_lt 0 (between false xs) then space (between false xs) else front_word signed (get_or xs 0 0) xs (opening xs))
unfolding front
front_is signed xs h0 = grind arith

pub front_over : (signed : Bool) (xs : List ℕ) (b : Bool) → b ≡ (length xs == 0) → b ≡ true → front signed xs ≡ over
front_over signed xs b e t = front_nil signed xs (grind (arith, nat_tests))

pub some_left : (xs : List ℕ) (b : Bool) → b ≡ (length xs == 0) → b ≡ false → 0 < length xs
some_left xs b e t = grind (arith, nat_tests)

pub front_space : (signed : Bool) (xs : List ℕ) (n : ℕ) → 0 < length xs → n ≡ between false xs → 0 < n → front signed xs ≡ space n
front_space signed xs n h e l =
    let t : nat_lt 0 (between false xs) ≡ true = grind (arith, nat_tests) in
    rw (front_is signed xs h, t, e) refl

pub front_else : (signed : Bool) (xs : List ℕ) (n : ℕ) → 0 < length xs → n ≡ between false xs → n ≤ 0 → front signed xs ≡ front_word signed (get_or xs 0 0) xs (opening xs)
front_else signed xs n h e l =
    let t : nat_lt 0 (between false xs) ≡ false = grind (arith, nat_tests) in
    rw (front_is signed xs h, t) refl

-- the bytes after the quote of a text literal are UTF-8
pub opened : (bytes : List ℕ) (raw : Bool) (quote : ℕ) → IsQuoted bytes raw quote → EndsText bytes → IsUtf8 (drop (opening_len raw) bytes)
opened bytes false quote q u =
    let e = q.2 in
    rest_utf8 u.0 bytes 0 u.1 (omega (arith, q.0)) (omega (arith, e, quote_ascii quote q.1))
opened bytes true quote q u =
    let e = q.2 in
    rest_utf8 u.0 bytes 1 u.1 (omega (arith, q.0)) (omega (arith, e, quote_ascii quote q.1))

-- a property that holds for both results
pub in_any_case : {T E P : Type 0} (r : Result T E) → P → OnErr r P
in_any_case r h0 = grind arith
