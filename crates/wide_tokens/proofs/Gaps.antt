-- Steps over the bytes of a gap.
use Rattle.wide_tokens.proofs.Prelude.{◌≡◌, ℕ, suc, zero, ◌+◌, ◌<◌, ◌≤◌, List, [], ◌∷◌, length, get_or, drop, refl, sym, ◌∙◌, ap, arith, Bool, true, false, drop-cons, between, is_between, stays_in_comment}

between_on : (c : Bool) (b : ℕ) (bs : List ℕ) → is_between c b (b ∷ bs) ≡ true → between c (b ∷ bs) ≡ between (stays_in_comment c b) bs + 1
unfolding between
between_on c b bs e = rw e refl

pub between_off : (c : Bool) (b : ℕ) (bs : List ℕ) → is_between c b (b ∷ bs) ≡ false → between c (b ∷ bs) ≡ 0
unfolding between
between_off c b bs e = rw e refl

pub between_empty : (c : Bool) (xs : List ℕ) (n : ℕ) → length xs ≤ n → between c (drop n xs) ≡ 0
unfolding between
between_empty c [] zero h = refl
between_empty c [] (suc n) h = refl
between_empty c (x ∷ xs) zero h = absurd (omega arith)
between_empty c (x ∷ xs) (suc n) h = between_empty c xs n (omega arith)

pub between_more : (c : Bool) (xs : List ℕ) (n : ℕ) → n < length xs → is_between c (get_or xs n 0) (drop n xs) ≡ true
    → between c (drop n xs) ≡ between (stays_in_comment c (get_or xs n 0)) (drop (n + 1) xs) + 1
between_more c xs n h e =
    let d = drop-cons xs n 0 h in
    let q : suc n ≡ n + 1 = omega arith in
    ap (between c) d ∙ between_on c (get_or xs n 0) (drop (suc n) xs) (ap (is_between c (get_or xs n 0)) (sym d) ∙ e)
    ∙ ap (λ (k : ℕ). between (stays_in_comment c (get_or xs n 0)) (drop k xs) + 1) q

pub between_stops : (c : Bool) (xs : List ℕ) (n : ℕ) → n < length xs → is_between c (get_or xs n 0) (drop n xs) ≡ false → between c (drop n xs) ≡ 0
between_stops c xs n h = grind (arith, drop-cons, between_off)
