-- Replacing, a part or a code point at a time.
use Rattle.text_functions.proofs.Prelude.{true, cond, nat_lt, nat_tests, ◌≡◌, ◌∙◌, ◌∷◌, ◌++◌, ◌<◌, ◌-◌, ◌⊎◌, inl, inr, ℕ, zero, suc, List, [], Some}
use Rattle.text_functions.proofs.Prelude.{None, length, refl, sym, ap, ap₂, arith, none-some, append_assoc, encode_utf8, encode_utf8_all}
use Rattle.text_functions.proofs.Prelude.{encodes-append, encodes-chars, IsUtf8, chars, IsLetterAndRest, chosen, next_cut, on_cut, parted}
use Rattle.text_functions.proofs.Prelude.{replaced}
use Rattle.text_functions.proofs.Cutting.{no_rest}
use Rattle.text_functions.proofs.Splitting.{one_less}

-- what was made, two texts and others
joined : (made a b rest whole : List ℕ) → made ++ (a ++ (b ++ rest)) ≡ whole → made ++ a ++ b ++ rest ≡ whole
joined made a b rest whole h = append_assoc (made ++ a) b rest ∙ append_assoc made a (b ++ rest) ∙ h

spelled_two : (a b cs : List ℕ) → IsUtf8 a → IsUtf8 b → encode_utf8_all (chars a ++ (chars b ++ cs)) ≡ a ++ (b ++ encode_utf8_all cs)
spelled_two a b cs u v =
    encodes-append (chars a) (chars b ++ cs)
    ∙ ap₂ (λ xs ys. xs ++ ys) (encodes-chars a u) (encodes-append (chars b) cs ∙ ap (λ xs. xs ++ encode_utf8_all cs) (encodes-chars b v))

replaced_more : (n : ℕ) (part other cs a b : List ℕ) → Some (a, b) ≡ next_cut n part cs → replaced n part other cs ≡ a ++ (other ++ replaced (n - 1) part other b)
replaced_more zero part other cs a b e = absurd (none-some (a, b) (sym e))
replaced_more (suc n) part other cs a b e =
    ap (on_cut cs (λ parts. parts.0 ++ (other ++ replaced n part other parts.1))) (sym e) ∙ ap (λ m. a ++ (other ++ replaced m part other b)) (one_less n)

replaced_end : (n : ℕ) (part other cs : List ℕ) → None ≡ next_cut n part cs → replaced n part other cs ≡ cs
replaced_end zero part other cs e = refl
replaced_end (suc n) part other cs e = ap (on_cut cs (λ parts. parts.0 ++ (other ++ replaced n part other parts.1))) (sym e)

pub replace_more : (made a other : List ℕ) (n : ℕ) (part rest after whole : List ℕ) → IsUtf8 a → IsUtf8 other → Some (chars a, after) ≡ next_cut n part rest
    → made ++ encode_utf8_all (replaced n part (chars other) rest) ≡ whole → made ++ a ++ other ++ encode_utf8_all (replaced (n - 1) part (chars other) after) ≡ whole
replace_more made a other n part rest after whole u v e h =
    joined made a other (encode_utf8_all (replaced (n - 1) part (chars other) after)) whole
    (ap (λ xs. made ++ xs)
    (sym (ap encode_utf8_all (replaced_more n part (chars other) rest (chars a) after e) ∙ spelled_two a other (replaced (n - 1) part (chars other) after) u v))
    ∙ h)

pub replace_end : (made rest : List ℕ) (n : ℕ) (part other whole : List ℕ) → IsUtf8 rest → None ≡ next_cut n part (chars rest)
    → made ++ encode_utf8_all (replaced n part other (chars rest)) ≡ whole → made ++ rest ≡ whole
replace_end made rest n part other whole u e h =
    ap (λ xs. made ++ xs) (sym (ap encode_utf8_all (replaced_end n part other (chars rest) e) ∙ encodes-chars rest u)) ∙ h

-- ---- before each code point

spelled_letter : (a cs : List ℕ) (c : ℕ) → IsUtf8 a → encode_utf8_all (chars a ++ (c ∷ cs)) ≡ a ++ (encode_utf8 c ++ encode_utf8_all cs)
spelled_letter a cs c u = encodes-append (chars a) (c ∷ cs) ∙ ap (λ xs. xs ++ (encode_utf8 c ++ encode_utf8_all cs)) (encodes-chars a u)

parted_more : (n : ℕ) (other text letter after : List ℕ) (b : IsLetterAndRest text letter after) → 0 < n → parted n other (chars text) ≡ other ++ (b.code ∷ parted (n - 1) other (chars after))
parted_more zero other text letter after b h = let no : ⊥ = omega arith in absurd no
parted_more (suc n) other text letter after b h =
    ap (parted (suc n) other) b.codes ∙ ap (λ m. other ++ (b.code ∷ parted m other (chars after))) (one_less n)

pub part_more : (made other letter after : List ℕ) (n : ℕ) (rest whole : List ℕ) → IsUtf8 other → 0 < n → IsLetterAndRest rest letter after
    → made ++ encode_utf8_all (parted n (chars other) (chars rest)) ≡ whole → made ++ other ++ letter ++ encode_utf8_all (parted (n - 1) (chars other) (chars after)) ≡ whole
part_more made other letter after n rest whole u l b h =
    joined made other letter (encode_utf8_all (parted (n - 1) (chars other) (chars after))) whole
    (ap (λ xs. made ++ (other ++ (xs ++ encode_utf8_all (parted (n - 1) (chars other) (chars after))))) b.spelled
    ∙ ap (λ xs. made ++ xs)
    (sym (ap encode_utf8_all (parted_more n (chars other) rest letter after b l) ∙ spelled_letter other (parted (n - 1) (chars other) (chars after)) b.code u))
    ∙ h)

parted_last : (n : ℕ) (other : List ℕ) → 0 < n → parted n other [] ≡ other
parted_last zero other h = let no : ⊥ = omega arith in absurd no
parted_last (suc n) other h = refl

rest_none : (n m : ℕ) → (n ≡ 0) ⊎ (m ≡ 0) → 0 < n → m ≡ 0
rest_none n m (inl e) h = let no : ⊥ = omega arith in absurd no
rest_none n m (inr e) h = e

part_last : (made other rest : List ℕ) (n : ℕ) (whole : List ℕ) → IsUtf8 other → (n ≡ 0) ⊎ (length rest ≡ 0) → 0 < n
    → made ++ encode_utf8_all (parted n (chars other) (chars rest)) ≡ whole → made ++ other ≡ whole
part_last made other rest n whole u end l h =
    ap (λ xs. made ++ xs)
    (sym (ap (λ cs. encode_utf8_all (parted n (chars other) cs)) (no_rest rest (rest_none n (length rest) end l)) ∙ ap encode_utf8_all (parted_last n (chars other) l) ∙ encodes-chars other u))
    ∙ h

part_end : (made other rest : List ℕ) (n : ℕ) (whole : List ℕ) → IsUtf8 rest → n ≡ 0 → made ++ encode_utf8_all (parted n (chars other) (chars rest)) ≡ whole → made ++ rest ≡ whole
part_end made other rest n whole u e h =
    ap (λ xs. made ++ xs) (sym (ap (λ m. encode_utf8_all (parted m (chars other) (chars rest))) e ∙ encodes-chars rest u)) ∙ h

pub part_done : (made other rest : List ℕ) (n : ℕ) (whole : List ℕ) → IsUtf8 other → IsUtf8 rest → (n ≡ 0) ⊎ (length rest ≡ 0)
    → made ++ encode_utf8_all (parted n (chars other) (chars rest)) ≡ whole → made ++ chosen n other rest ≡ whole
part_done made other rest zero whole u v end h = part_end made other rest zero whole v refl h
part_done made other rest (suc n) whole u v end h =
    let t : nat_lt 0 (suc n) ≡ true = grind (arith, nat_tests) in
    ap (λ b. made ++ cond b other rest) t ∙ part_last made other rest (suc n) whole u end (omega arith) h
