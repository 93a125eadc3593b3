-- Steps over the pieces of a text.
use Rattle.wide_tokens.proofs.Prelude.{◌≡◌, ℕ, suc, zero, ◌+◌, ◌-◌, ◌<◌, ◌≤◌, List, [], ◌∷◌, ◌++◌, length, get_or, drop, refl, sym, ◌∙◌, ap, arith, true, false, Option, Some, None, drop-cons, drop-drop, subst, option_and_then, Opening, closes, closing_len, content, piece}

ended : (o : Opening) (skip n : ℕ) (said : List ℕ) → content o skip n said [] ≡ None
unfolding content
ended o skip n said = refl

past_end : (xs : List ℕ) (n : ℕ) → length xs ≤ n → drop n xs ≡ []
past_end [] zero h = refl
past_end [] (suc n) h = refl
past_end (x ∷ xs) zero h = absurd (omega arith)
past_end (x ∷ xs) (suc n) h = past_end xs n (omega arith)

pub content_over : (o : Opening) (said xs : List ℕ) (n : ℕ) → length xs ≤ n → content o 0 n said (drop n xs) ≡ None
content_over o said xs n h = rw (past_end xs n h) (ended o 0 n said)

skipped : (o : Opening) (skip n : ℕ) (said bs : List ℕ) → skip ≤ length bs → content o skip n said bs ≡ content o 0 (n + skip) said (drop skip bs)
unfolding content
skipped o zero n said bs h = let e : n + 0 ≡ n = omega arith in rw e refl
skipped o (suc skip) n said [] h = absurd (omega arith)
skipped o (suc skip) n said (b ∷ bs) h = grind (arith, skipped o skip (n + 1) said bs (omega arith))

closes_here : (o : Opening) (n b : ℕ) (said bs : List ℕ) → closes o.long o.quote (b ∷ bs) ≡ true → content o 0 n said (b ∷ bs) ≡ Some (n + closing_len o.long, said)
unfolding content
closes_here o n b said bs h = rw h refl

goes_on : (o : Opening) (n b : ℕ) (said bs : List ℕ) → closes o.long o.quote (b ∷ bs) ≡ false
    → content o 0 n said (b ∷ bs) ≡ option_and_then (λ x. content o (x.0 - 1) (n + 1) (said ++ x.1) bs) (piece o.raw o.long (b ∷ bs))
unfolding content
goes_on o n b said bs h = rw h refl

pub content_closes : (o : Opening) (n : ℕ) (said xs : List ℕ) → n < length xs → closes o.long o.quote (drop n xs) ≡ true
    → content o 0 n said (drop n xs) ≡ Some (n + closing_len o.long, said)
content_closes o n said xs h e =
    let c = drop-cons xs n 0 h in
    ap (content o 0 n said) c ∙ closes_here o n (get_or xs n 0) said (drop (suc n) xs) (ap (closes o.long o.quote) (sym c) ∙ e)

pub content_refused : (o : Opening) (n : ℕ) (said xs : List ℕ) → n < length xs → closes o.long o.quote (drop n xs) ≡ false
    → piece o.raw o.long (drop n xs) ≡ None → content o 0 n said (drop n xs) ≡ None
content_refused o n said xs h e f =
    let c = drop-cons xs n 0 h in
    ap (content o 0 n said) c ∙ goes_on o n (get_or xs n 0) said (drop (suc n) xs) (ap (closes o.long o.quote) (sym c) ∙ e)
    ∙ ap (option_and_then (λ x. content o (x.0 - 1) (n + 1) (said ++ x.1) (drop (suc n) xs))) (ap (piece o.raw o.long) (sym c) ∙ f)

more_at : (o : Opening) (n b : ℕ) (said bs : List ℕ) (x : ℕ × List ℕ) → closes o.long o.quote (b ∷ bs) ≡ false → piece o.raw o.long (b ∷ bs) ≡ Some x → 1 ≤ x.0
    → x.0 ≤ length (b ∷ bs) → content o 0 n said (b ∷ bs) ≡ content o 0 (n + x.0) (said ++ x.1) (drop (x.0 - 1) bs)
more_at o n b said bs x h e low high = grind (arith, goes_on, skipped)

pub content_more : (o : Opening) (n : ℕ) (said xs : List ℕ) (x : ℕ × List ℕ) → n < length xs → closes o.long o.quote (drop n xs) ≡ false → piece o.raw o.long (drop n xs) ≡ Some x
    → 1 ≤ x.0 → x.0 ≤ length (drop n xs) → content o 0 n said (drop n xs) ≡ content o 0 (n + x.0) (said ++ x.1) (drop (n + x.0) xs)
content_more o n said xs x h d e low high =
    let c = drop-cons xs n 0 h in
    let q : suc n + (x.0 - 1) ≡ n + x.0 = omega arith in
    ap (content o 0 n said) c
    ∙ (more_at o n (get_or xs n 0) said (drop (suc n) xs) x (ap (closes o.long o.quote) (sym c) ∙ d) (ap (piece o.raw o.long) (sym c) ∙ e) low (subst (λ (ys : List ℕ). x.0 ≤ length ys) c high)
    ∙ ap (content o 0 (n + x.0) (said ++ x.1)) (drop-drop (x.0 - 1) (suc n) xs ∙ ap (λ y. drop y xs) q))
