-- Splitting and replacing, a cut or a code point at a time.
use Rattle.text_functions.proofs.Prelude.{◌≡◌, ◌∙◌, ◌∷◌, ◌++◌, ◌<◌, ◌-◌, ◌⊎◌, ◌==◌, inl, inr, false, nat_tests, ℕ, zero, suc}
use Rattle.text_functions.proofs.Prelude.{List, [], Some, None, length, map, refl, sym, ap, arith, none-some, append_assoc}
use Rattle.text_functions.proofs.Prelude.{append-nil, map_push, encode_utf8, encode_utf8_all, encodes-chars, IsUtf8}
use Rattle.text_functions.proofs.Prelude.{chars, Bor, IsLetterAndRest, all_spelled, letters, next_cut, on_cut, pieces}
use Rattle.text_functions.proofs.Cutting.{no_rest}

pub one_less : (n : ℕ) → n ≡ suc n - 1
one_less n = omega arith

abbrev pub told : List (Bor (List ℕ)) → List (List ℕ)
told items = map (λ p. p.now) items

-- one more text, that of these code points, before others
told_more : (items : List (Bor (List ℕ))) (p : Bor (List ℕ)) (cs : List ℕ) (others : List (List ℕ)) → p.now ≡ encode_utf8_all cs
    → told (items ++ p ∷ []) ++ all_spelled others ≡ told items ++ all_spelled (cs ∷ others)
told_more items p cs others e =
    ap (λ ys. ys ++ all_spelled others) (map_push (λ q. q.now) items p)
    ∙ append_assoc (told items) (p.now ∷ []) (all_spelled others)
    ∙ ap (λ x. told items ++ (x ∷ all_spelled others)) e

-- one more text at the end
told_last : (items : List (Bor (List ℕ))) (p : Bor (List ℕ)) (cs : List ℕ) → p.now ≡ encode_utf8_all cs → told (items ++ p ∷ []) ≡ told items ++ all_spelled (cs ∷ [])
told_last items p cs e = map_push (λ q. q.now) items p ∙ ap (λ x. told items ++ (x ∷ [])) e

-- ---- at a separator

pieces_more : (n : ℕ) (separator cs a b : List ℕ) → Some (a, b) ≡ next_cut n separator cs → pieces n separator cs ≡ a ∷ pieces (n - 1) separator b
pieces_more zero separator cs a b e = absurd (none-some (a, b) (sym e))
pieces_more (suc n) separator cs a b e =
    ap (on_cut (cs ∷ []) (λ parts. parts.0 ∷ pieces n separator parts.1)) (sym e) ∙ ap (λ m. a ∷ pieces m separator b) (one_less n)

pieces_end : (n : ℕ) (separator cs : List ℕ) → None ≡ next_cut n separator cs → pieces n separator cs ≡ cs ∷ []
pieces_end zero separator cs e = refl
pieces_end (suc n) separator cs e = ap (on_cut (cs ∷ []) (λ parts. parts.0 ∷ pieces n separator parts.1)) (sym e)

pub split_more : (items : List (Bor (List ℕ))) (p : Bor (List ℕ)) (n : ℕ) (separator rest after : List ℕ) (whole : List (List ℕ)) → IsUtf8 p.now
    → Some (chars p.now, after) ≡ next_cut n separator rest → told items ++ all_spelled (pieces n separator rest) ≡ whole
    → told (items ++ p ∷ []) ++ all_spelled (pieces (n - 1) separator after) ≡ whole
split_more items p n separator rest after whole utf8 e h =
    told_more items p (chars p.now) (pieces (n - 1) separator after) (sym (encodes-chars p.now utf8))
    ∙ ap (λ xs. told items ++ all_spelled xs) (sym (pieces_more n separator rest (chars p.now) after e))
    ∙ h

pub split_end : (items : List (Bor (List ℕ))) (p : Bor (List ℕ)) (n : ℕ) (separator : List ℕ) (whole : List (List ℕ)) → IsUtf8 p.now
    → None ≡ next_cut n separator (chars p.now) → told items ++ all_spelled (pieces n separator (chars p.now)) ≡ whole → told (items ++ p ∷ []) ≡ whole
split_end items p n separator whole utf8 e h =
    told_last items p (chars p.now) (sym (encodes-chars p.now utf8))
    ∙ ap (λ xs. told items ++ all_spelled xs) (sym (pieces_end n separator (chars p.now) e))
    ∙ h

-- ---- after each code point

alone_spelled : (text letter rest : List ℕ) (b : IsLetterAndRest text letter rest) → letter ≡ encode_utf8_all (b.code ∷ [])
alone_spelled text letter rest b = b.spelled ∙ sym (append-nil (encode_utf8 b.code))

letters_more : (n : ℕ) (text letter after : List ℕ) (b : IsLetterAndRest text letter after) → 0 < n → letters n (chars text) ≡ (b.code ∷ []) ∷ letters (n - 1) (chars after)
letters_more zero text letter after b h = let no : ⊥ = omega arith in absurd no
letters_more (suc n) text letter after b h =
    ap (letters (suc n)) b.codes ∙ ap (λ m. (b.code ∷ []) ∷ letters m (chars after)) (one_less n)

pub letters_more_of : (items : List (Bor (List ℕ))) (p : Bor (List ℕ)) (n : ℕ) (rest after : List ℕ) (whole : List (List ℕ)) → 0 < n → IsLetterAndRest rest p.now after
    → told items ++ all_spelled (letters n (chars rest)) ≡ whole → told (items ++ p ∷ []) ++ all_spelled (letters (n - 1) (chars after)) ≡ whole
letters_more_of items p n rest after whole l b h =
    told_more items p (b.code ∷ []) (letters (n - 1) (chars after)) (alone_spelled rest p.now after b)
    ∙ ap (λ xs. told items ++ all_spelled xs) (sym (letters_more n rest p.now after b l))
    ∙ h

-- at the end nothing is left to cut, or no text
letters_none : (cs : List ℕ) (n : ℕ) → n ≡ 0 → 0 < length cs → letters n cs ≡ cs ∷ []
letters_none [] n e h = let no : ⊥ = omega arith in absurd no
letters_none (c ∷ cs) n e h = ap (λ m. letters m (c ∷ cs)) e

some_codes : (text : List ℕ) (cs : List ℕ) → encode_utf8_all cs ≡ text → 0 < length text → 0 < length cs
some_codes text [] e h = let no : ⊥ = omega (arith, ap length e) in absurd no
some_codes text (c ∷ cs) e h = omega arith

pub some_left : (n : ℕ) → false ≡ (n == 0) → 0 < n
some_left n e = grind (arith, nat_tests)

left_none : (n m : ℕ) → (n ≡ 0) ⊎ (m ≡ 0) → 0 < m → n ≡ 0
left_none n m (inl e) h = e
left_none n m (inr e) h = let no : ⊥ = omega arith in absurd no

pub letters_rest : (items : List (Bor (List ℕ))) (p : Bor (List ℕ)) (n : ℕ) (whole : List (List ℕ)) → IsUtf8 p.now → (n ≡ 0) ⊎ (length p.now ≡ 0) → 0 < length p.now
    → told items ++ all_spelled (letters n (chars p.now)) ≡ whole → told (items ++ p ∷ []) ≡ whole
letters_rest items p n whole utf8 end some h =
    let back : encode_utf8_all (chars p.now) ≡ p.now = encodes-chars p.now utf8 in
    told_last items p (chars p.now) (sym back)
    ∙ ap (λ xs. told items ++ all_spelled xs) (sym (letters_none (chars p.now) n (left_none n (length p.now) end some) (some_codes p.now (chars p.now) back some)))
    ∙ h

pub letters_no_rest : (items : List (Bor (List ℕ))) (n : ℕ) (rest : List ℕ) (whole : List (List ℕ)) → length rest ≡ 0 → told items ++ all_spelled (letters n (chars rest)) ≡ whole → told items ≡ whole
letters_no_rest items n rest whole e h =
    sym (append-nil (told items)) ∙ ap (λ cs. told items ++ all_spelled (letters n cs)) (sym (no_rest rest e)) ∙ h
