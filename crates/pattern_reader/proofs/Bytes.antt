-- Code points and the bytes that they take.
use Rattle.std.proofs.Common.{◌≡◌, ℕ, ◌+◌, ◌<◌, ◌≤◌, List, [], ◌∷◌, ◌++◌, length, take, get_or, ap, subst, arith, encode_utf8}
use Rattle.std.proofs.lemmas.List.{take_more, length-append, append-nil}
use Rattle.std.proofs.lemmas.Str.{encodes-append, length-le-encodes, encodes-chars}
use Rattle.std.specs.Str.{IsUtf8, chars, encode_utf8_all}

-- one more code point takes its own bytes more
pub encoded_more : (points : List ℕ) (i : ℕ) → i < length points
    → length (encode_utf8_all (take (i + 1) points)) ≡ length (encode_utf8_all (take i points)) + length (encode_utf8 (get_or points i 0))
encoded_more points i h =
    let c : ℕ = get_or points i 0 in
    let a : length (encode_utf8_all (take (i + 1) points)) ≡ length (encode_utf8_all (take i points ++ c ∷ [])) =
    ap (λ (xs : List ℕ). length (encode_utf8_all xs)) (take_more points i 0 h) in
    let b : length (encode_utf8_all (take i points ++ c ∷ [])) ≡ length (encode_utf8_all (take i points) ++ encode_utf8_all (c ∷ [])) =
    ap length (encodes-append (take i points) (c ∷ [])) in
    let d : length (encode_utf8_all (take i points) ++ encode_utf8_all (c ∷ [])) ≡ length (encode_utf8_all (take i points)) + length (encode_utf8_all (c ∷ [])) =
    length-append (encode_utf8_all (take i points)) (encode_utf8_all (c ∷ [])) in
    let e : length (encode_utf8_all (c ∷ [])) ≡ length (encode_utf8 c) = ap length (append-nil (encode_utf8 c)) in
    omega (arith, a, b, d, e)

-- a text has no more code points than bytes
pub chars_short : (text : List ℕ) → IsUtf8 text → length (chars text) ≤ length text
chars_short text u =
    let P : List ℕ → Type 0 = λ (bs : List ℕ). length (chars text) ≤ length bs in
    subst P (encodes-chars text u) (length-le-encodes (chars text))
