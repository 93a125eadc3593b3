-- The value of a text literal depends on its own bytes only.
use Rattle.cel_tokens.proofs.Prelude.{◌≡◌, ℕ, ◌+◌, ◌≤◌, List, [], ◌∷◌, ◌++◌, length, take, drop, sym, ◌∙◌, ap, subst, arith, Bool, Option, Some, None, encode_utf8, length-drop, take-take, drop-take, escape, escaped, piece, LiteralMeans, closing, one_piece, EscapeNames}
use Rattle.cel_tokens.proofs.NamedEscapes.{names_its_code_point}

-- the first n bytes are equal
abbrev Alike : ℕ → List ℕ → List ℕ → Type 0
Alike n xs ys = (n ≤ length ys) × (take n ys ≡ take n xs)

-- equal bytes after some equal bytes
pub alike_behind : (m n : ℕ) (xs ys : List ℕ) → Alike (m + n) xs ys → Alike n (drop m xs) (drop m ys)
alike_behind m n xs ys a =
    let l = a.0 in
    (omega (arith, l, length-drop m ys), sym (drop-take m n ys) ∙ ap (drop m) a.1 ∙ drop-take m n xs)

-- fewer bytes are equal too
pub alike_fewer : (m n : ℕ) (xs ys : List ℕ) → m ≤ n → Alike n xs ys → Alike m xs ys
alike_fewer m n xs ys h a =
    let l = a.0 in
    (omega (arith, l, h), sym (take-take m n ys h) ∙ ap (take m) a.1 ∙ take-take m n xs h)

escape_alike : (xs ys : List ℕ) (code len : ℕ) → escape xs ≡ Some (code, len) → Alike len xs ys → escape ys ≡ Some (code, len)
escape_alike xs ys code len e a =
    (names_its_code_point ys code len).1 (a.0, subst (λ (zs : List ℕ). EscapeNames zs code) (sym a.1) ((names_its_code_point xs code len).0 e).1)

escaped_alike : (b : ℕ) (xs ys : List ℕ) (x : ℕ × List ℕ) (o : Option (ℕ × ℕ)) → escape xs ≡ o → escaped o ≡ Some x → Alike x.0 (b ∷ xs) (b ∷ ys)
    → escaped (escape ys) ≡ Some x
escaped_alike b xs ys x None e f a = absurd cc
escaped_alike b xs ys x (Some (code, len)) e f a =
    let p : x ≡ (len + 1, encode_utf8 code) = cc in
    let q : x.0 ≡ 1 + len = omega (arith, ap (λ (y : ℕ × List ℕ). y.0) p) in
    ap escaped (escape_alike xs ys code len e (alike_behind 1 len (b ∷ xs) (b ∷ ys) (subst (λ k. Alike k (b ∷ xs) (b ∷ ys)) q a))) ∙ f

piece_alike : (raw : Bool) (b : ℕ) (xs ys : List ℕ) (x : ℕ × List ℕ) → piece raw (b ∷ xs) ≡ Some x → Alike x.0 (b ∷ xs) (b ∷ ys) → piece raw (b ∷ ys) ≡ Some x
piece_alike raw b xs ys x e a = grind (arith, escaped_alike)

-- a literal has at least one byte
says_some : {raw : Bool} {quote n : ℕ} {xs said : List ℕ} → LiteralMeans raw quote xs n said → 1 ≤ n
says_some h0 = grind arith

-- a literal has no more bytes than there are
pub says_within : {raw : Bool} {quote n : ℕ} {xs said : List ℕ} → LiteralMeans raw quote xs n said → n ≤ length xs
says_within closing = omega arith
says_within (one_piece {b = b} {bs = bs} x d e s) = grind (arith, says_some, length-drop, says_within s)

first_alike : (n b c : ℕ) (xs ys : List ℕ) → 1 ≤ n → Alike n (b ∷ xs) (c ∷ ys) → c ≡ b
first_alike n b c xs ys h0 h1 = grind arith

pub says_alike : {raw : Bool} {quote n : ℕ} {xs said : List ℕ} → LiteralMeans raw quote xs n said → (ys : List ℕ) → Alike n xs ys → LiteralMeans raw quote ys n said
says_alike {raw} {quote} (closing {rest = rest}) [] a = let l = a.0 in absurd (omega (arith, l))
says_alike {raw} {quote} (closing {rest = rest}) (c ∷ ys) a =
    subst (λ k. LiteralMeans raw quote (k ∷ ys) 1 []) (sym (first_alike 1 quote c rest ys (omega arith) a)) closing
says_alike {raw} {quote} (one_piece x d e s) [] a = let l = a.0 in let k = says_some s in absurd (omega (arith, l, k))
says_alike {raw} {quote} (one_piece {b = b} {n = n} {bs = bs} {said = said} x d e s) (c ∷ ys) a =
    let k = says_some s in
    let f = first_alike (x.0 + n) b c bs ys (omega (arith, k)) a in
    let g = subst (λ z. Alike (x.0 + n) (b ∷ bs) (z ∷ ys)) f a in
    subst (λ z. LiteralMeans raw quote (z ∷ ys) (x.0 + n) (x.1 ++ said)) (sym f)
    (one_piece x d (piece_alike raw b bs ys x e (alike_fewer x.0 (x.0 + n) (b ∷ bs) (b ∷ ys) (omega arith) g)) (says_alike s (drop x.0 (b ∷ ys))
    (alike_behind x.0 n (b ∷ bs) (b ∷ ys) g)))
