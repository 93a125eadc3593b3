-- Parts of texts by the places of code points.
use Rattle.text_functions.proofs.Prelude.{◌≡◌, ◌∙◌, ◌<◌, ◌≤◌, ◌+◌, ◌-◌, ◌&&◌, ℕ, ℤ, negsuc, true, false, List, Option, Some, None, length}
use Rattle.text_functions.proofs.Prelude.{take, drop, option_map, refl, ap, arith, nat_tests, nat_le, nat_lt, length-take}
use Rattle.text_functions.proofs.Prelude.{encode_utf8_all, chars, IsCut, code_point_at, first_from_place, first_place, from_on}
use Rattle.text_functions.proofs.Prelude.{from_to, last_place, last_to_place, last_within, place_or_none, spelled, FitsSigned, of_z, to_z}
use Rattle.text_functions.proofs.Prelude.{to_z-of_z, w64}
use Rattle.text_functions.proofs.Searching.{first_in_rest, last_in_front}
use Rattle.text_functions.proofs.Standing.{Parts}

within_both : (m n size : ℕ) → m ≤ n → n ≤ size → (nat_le m n && nat_le n size) ≡ true
within_both m n size h k = grind (arith, nat_tests)

within_one : (n size : ℕ) → n ≤ size → nat_le n size ≡ true
within_one n size h = grind (arith, nat_tests)

pub part_is : (m n : ℕ) (text front rest part back : List ℕ) → m ≤ n → n ≤ length (chars text) → IsCut m text front rest → IsCut (n - m) rest part back
    → Some part ≡ spelled (from_to m n (chars text))
part_is m n text front rest part back h k first second =
    let e : (nat_le m n && nat_le n (length (chars text))) ≡ true = within_both m n (length (chars text)) h k in
    let p : part ≡ encode_utf8_all (take (n - m) (drop m (chars text))) = second.front_is ∙ ap (λ cs. encode_utf8_all (take (n - m) cs)) first.back_codes in
    rw e (ap (λ x. Some x) p)

pub end_is : (n : ℕ) (text front rest : List ℕ) → n ≤ length (chars text) → IsCut n text front rest → Some rest ≡ spelled (from_on n (chars text))
end_is n text front rest h whole =
    let e : nat_le n (length (chars text)) ≡ true = within_one n (length (chars text)) h in
    rw e (ap (λ x. Some x) whole.back_is)

pub letter_is : (n : ℕ) (text front rest letter back : List ℕ) → n ≤ length (chars text) → IsCut n text front rest → IsCut 1 rest letter back
    → Some letter ≡ spelled (code_point_at n (chars text))
letter_is n text front rest letter back h first second =
    let e : nat_le n (length (chars text)) ≡ true = within_one n (length (chars text)) h in
    let p : letter ≡ encode_utf8_all (take 1 (drop n (chars text))) = second.front_is ∙ ap (λ cs. encode_utf8_all (take 1 cs)) first.back_codes in
    rw e (ap (λ x. Some x) p)

-- the number of code points before the first of two parts, after m others
abbrev pub passed : ℕ → Option Parts → ℤ
passed m o = place_or_none (option_map (λ p. m + length (chars p.0.now)) o)

pub first_is : (n : ℕ) (text front rest part : List ℕ) (m : ℕ) (o : Option Parts) → IsCut n text front rest → m ≡ length (chars front)
    → option_map (λ p. length (chars p.0.now)) o ≡ first_place (chars part) (chars rest) 0 → passed m o ≡ first_from_place n (chars part) (chars text)
first_is n text front rest part m o whole e h =
    ap place_or_none
    (first_in_rest (λ p. length (chars p.0.now)) (chars part) (chars text) n m o (e ∙ ap length whole.front_codes ∙ length-take n (chars text))
    (h ∙ ap (λ cs. first_place (chars part) cs 0) whole.back_codes))

none_passed : (o : Option Parts) → option_map (λ p. 0 + length (chars p.0.now)) o ≡ option_map (λ p. length (chars p.0.now)) o
none_passed None = refl
none_passed (Some p) = let e : 0 + length (chars p.0.now) ≡ length (chars p.0.now) = omega arith in ap (λ k. Some k) e

pub last_is : (part text : List ℕ) (o : Option Parts) → option_map (λ p. length (chars p.0.now)) o ≡ last_place (chars part) (chars text) (length (chars text))
    → passed 0 o ≡ place_or_none (last_place (chars part) (chars text) (length (chars text)))
last_is part text o h = ap place_or_none (none_passed o ∙ h)

pub last_by : (n count k : ℕ) (text front back part : List ℕ) (o : Option Parts) → IsCut k text front back → k ≡ n + count → count ≡ length (chars part)
    → option_map (λ p. length (chars p.0.now)) o ≡ last_place (chars part) (chars front) (length (chars front)) → passed 0 o ≡ last_to_place n (chars part) (chars text)
last_by n count k text front back part o whole e f h =
    let size : k ≡ n + length (chars part) = e ∙ ap (λ m. n + m) f in
    let codes : chars front ≡ take (n + length (chars part)) (chars text) = whole.front_codes ∙ ap (λ m. take m (chars text)) size in
    last_is part front o h
    ∙ ap (λ cs. place_or_none (last_place (chars part) cs (length cs))) codes
    ∙ ap place_or_none (last_in_front (chars part) (chars text) n)

-- what comes of the two tests before the search for the last place

pub by_empty : (n : ℕ) (part cs : List ℕ) (z : ℤ) → length part ≡ 0 → z ≡ last_to_place n part cs → z ≡ last_within n part cs
by_empty n part cs z e h =
    let t : (nat_lt 0 (length part) && nat_le (length cs) n) ≡ false = grind (arith, nat_tests) in
    rw t h

pub by_end : (n : ℕ) (part cs : List ℕ) (z : ℤ) → 0 < length part → length cs ≤ n → z ≡ negsuc 0 → z ≡ last_within n part cs
by_end n part cs z h k e =
    let t : (nat_lt 0 (length part) && nat_le (length cs) n) ≡ true = grind (arith, nat_tests) in
    rw t e

pub by_search : (n : ℕ) (part cs : List ℕ) (z : ℤ) → n < length cs → z ≡ last_to_place n part cs → z ≡ last_within n part cs
by_search n part cs z h e =
    let t : (nat_lt 0 (length part) && nat_le (length cs) n) ≡ false = grind (arith, nat_tests) in
    rw t e

-- a signed result of a call, as a caller returns it
pub handed_on : (z w : ℤ) → FitsSigned w64 z → z ≡ w → to_z w64 (of_z w64 z) ≡ w
handed_on z w f e = to_z-of_z w64 z f ∙ e
