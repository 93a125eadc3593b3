-- Texts that are split at the first byte of a kind.
use Rattle.assembler.proofs.Prelude.{◌≡◌, ◌≢◌, ◌<◌, ℕ, zero, suc, List, [], ◌∷◌, ◌++◌, refl, sym, ◌∙◌, ap, subst, arith, length, get_or, Bool, true, false, eq-eqb, ◌==◌, ◌&&◌, not, and_parts, goes_on_name, HasNoByte}
use Rattle.std.specs.List.{list_all}

-- a byte that does not occur is at no index
pub lacks_at : (c : ℕ) (xs : List ℕ) → HasNoByte c xs → (i : ℕ) → i < length xs → get_or xs i 0 ≢ c
lacks_at c [] h i lt = absurd (omega arith)
lacks_at c (x ∷ xs) h zero lt = h.0
lacks_at c (x ∷ xs) h (suc i) lt = lacks_at c xs h.1 i (omega arith)

-- a byte that is at no index does not occur
pub lacks_from : (c : ℕ) (xs : List ℕ) → ((i : ℕ) → i < length xs → get_or xs i 0 ≢ c) → HasNoByte c xs
lacks_from c [] h = tt
lacks_from c (x ∷ xs) h = (h 0 (omega arith), lacks_from c xs (λ i lt. h (suc i) (omega arith)))

pub lacks_append : (c : ℕ) (xs ys : List ℕ) → HasNoByte c xs → HasNoByte c ys → HasNoByte c (xs ++ ys)
lacks_append c [] ys h k = k
lacks_append c (x ∷ xs) ys h k = (h.0, lacks_append c xs ys h.1 k)

-- a byte that occurs is not lacking
pub lacks_not : (c : ℕ) (xs ys : List ℕ) → HasNoByte c (xs ++ c ∷ ys) → ⊥
lacks_not c [] ys h = h.0 refl
lacks_not c (x ∷ xs) ys h = lacks_not c xs ys h.1

-- equal texts are split equally
pub split_same : (c : ℕ) (xs ys vs ws : List ℕ) → HasNoByte c xs → HasNoByte c vs → xs ++ c ∷ ys ≡ vs ++ c ∷ ws → (xs ≡ vs) × (ys ≡ ws)
split_same c [] ys [] ws h k e = (refl, cc)
split_same c [] ys (v ∷ vs) ws h k e = absurd (k.0 (let p : c ≡ v = cc in sym p))
split_same c (x ∷ xs) ys [] ws h k e = absurd (h.0 (let p : x ≡ c = cc in p))
split_same c (x ∷ xs) ys (v ∷ vs) ws h k e =
    let p : x ≡ v = cc in
    let q : xs ++ c ∷ ys ≡ vs ++ c ∷ ws = cc in
    let r = split_same c xs ys vs ws h.1 k.1 q in
    (ap (λ y. y ∷ xs) p ∙ ap (λ zs. v ∷ zs) r.0, r.1)

pub lacks_gone : (c : ℕ) (text xs ys : List ℕ) → HasNoByte c text → text ≡ xs ++ c ∷ ys → ⊥
lacks_gone c text xs ys h e = lacks_not c xs ys (subst (λ t. HasNoByte c t) e h)

-- a test for it that computes
abbrev pub lacks : ℕ → List ℕ → Bool
lacks c [] = true
lacks c (x ∷ xs) = not (x == c) && lacks c xs

pub apart : (x c : ℕ) → (x == c) ≡ false → x ≡ c → ⊥
apart x c e p = absurd (let z : true ≡ false = sym (eq-eqb x c p) ∙ e in cc)

pub lacks_by : (c : ℕ) (xs : List ℕ) → lacks c xs ≡ true → HasNoByte c xs
lacks_by c [] e = tt
lacks_by c (x ∷ xs) e = let p = and_parts _ _ e in (apart x c (grind arith), lacks_by c xs p.1)

-- the bytes of names
pub go_lacks : (c : ℕ) → goes_on_name c ≡ false → (xs : List ℕ) → list_all goes_on_name xs ≡ true → HasNoByte c xs
go_lacks c h [] e = tt
go_lacks c h (x ∷ xs) e =
    let p = and_parts (goes_on_name x) (list_all goes_on_name xs) e in
    (λ q. let r : goes_on_name c ≡ true = subst (λ y. goes_on_name y ≡ true) q p.0 in absurd (let z : true ≡ false = sym r ∙ h in cc), go_lacks c h xs p.1)
