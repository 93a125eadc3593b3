-- Steps over the pieces of a text.
use Rattle.cel_tokens.proofs.Prelude.{◌≡◌, ℕ, suc, zero, ◌+◌, ◌-◌, ◌<◌, ◌≤◌, List, [], ◌∷◌, ◌++◌, length, get_or, drop, refl, sym, ◌∙◌, ap, arith, Bool, true, false, Some, None, drop-cons, subst, ◌≢◌, ◌==◌, option_and_then, encode_utf8, IsUtf8, IsScalar, IsUtf8-take, IsUtf8-drop, IsUtf8-append, IsUtf8-encode, IsCharBoundary-before_ascii, IsCharBoundary-after_ascii, take-append_seam, drop-append-add, drop-drop, get_or-append-add, nat_tests, content, piece, is_quote}
use Rattle.std.proofs.Common.{length-append}

pub ended : (raw : Bool) (quote skip n : ℕ) (said : List ℕ) → content raw quote skip n said [] ≡ None
unfolding content
ended raw quote skip n said = refl

past_end : (xs : List ℕ) (n : ℕ) → length xs ≤ n → drop n xs ≡ []
past_end [] zero h = refl
past_end [] (suc n) h = refl
past_end (x ∷ xs) zero h = absurd (omega arith)
past_end (x ∷ xs) (suc n) h = past_end xs n (omega arith)

pub content_over : (raw : Bool) (quote : ℕ) (said xs : List ℕ) (n : ℕ) → length xs ≤ n → content raw quote 0 n said (drop n xs) ≡ None
content_over raw quote said xs n h = rw (past_end xs n h) (ended raw quote 0 n said)

pub skipped : (raw : Bool) (quote skip n : ℕ) (said bs : List ℕ) → skip ≤ length bs → content raw quote skip n said bs ≡ content raw quote 0 (n + skip) said (drop skip bs)
unfolding content
skipped raw quote zero n said bs h = let e : n + 0 ≡ n = omega arith in rw e refl
skipped raw quote (suc skip) n said [] h = absurd (omega arith)
skipped raw quote (suc skip) n said (b ∷ bs) h = grind (arith, skipped raw quote skip (n + 1) said bs (omega arith))

pub closes : (raw : Bool) (quote n b : ℕ) (said bs : List ℕ) → b ≡ quote → content raw quote 0 n said (b ∷ bs) ≡ Some (n + 1, said)
unfolding content
closes raw quote n b said bs h = let e : (b == quote) ≡ true = grind (arith, nat_tests) in rw e refl

pub goes_on : (raw : Bool) (quote n b : ℕ) (said bs : List ℕ) → b ≢ quote
    → content raw quote 0 n said (b ∷ bs) ≡ option_and_then (λ x. content raw quote (x.0 - 1) (n + 1) (said ++ x.1) bs) (piece raw (b ∷ bs))
unfolding content
goes_on raw quote n b said bs h = let e : (b == quote) ≡ false = grind (arith, nat_tests) in rw e refl

pub content_refused : (raw : Bool) (quote n : ℕ) (said xs : List ℕ) → n < length xs → get_or xs n 0 ≢ quote → piece raw (drop n xs) ≡ None → content raw quote 0 n said (drop n xs) ≡ None
content_refused raw quote n said xs h d = grind (arith, drop-cons, goes_on)

pub more_at : (raw : Bool) (quote n b : ℕ) (said bs : List ℕ) (x : ℕ × List ℕ) → b ≢ quote → piece raw (b ∷ bs) ≡ Some x → 1 ≤ x.0
    → x.0 ≤ length (b ∷ bs) → content raw quote 0 n said (b ∷ bs) ≡ content raw quote 0 (n + x.0) (said ++ x.1) (drop (x.0 - 1) bs)
more_at raw quote n b said bs x h e low high = grind (arith, goes_on, skipped)

pub content_more : (raw : Bool) (quote n : ℕ) (said xs : List ℕ) (x : ℕ × List ℕ) → n < length xs → get_or xs n 0 ≢ quote → piece raw (drop n xs) ≡ Some x → 1 ≤ x.0 → x.0 ≤ length (drop n xs) → content raw quote 0 n said (drop n xs) ≡ content raw quote 0 (n + x.0) (said ++ x.1) (drop (n + x.0) xs)
content_more raw quote n said xs x h d e low high =
    let c = drop-cons xs n 0 h in
    let q : suc n + (x.0 - 1) ≡ n + x.0 = omega arith in
    ap (content raw quote 0 n said) c
    ∙ (more_at raw quote n (get_or xs n 0) said (drop (suc n) xs) x d (ap (piece raw) (sym c) ∙ e) low (subst (λ (ys : List ℕ). x.0 ≤ length ys) c high)
    ∙ ap (content raw quote 0 (n + x.0) (said ++ x.1)) (drop-drop (x.0 - 1) (suc n) xs ∙ ap (λ y. drop y xs) q))

pub quote_ascii : (b : ℕ) → is_quote b ≡ true → b < 128
quote_ascii b h = grind (arith, nat_tests)

-- a text may be split before an ASCII byte
pub said_utf8 : (said bytes : List ℕ) → IsUtf8 (said ++ bytes) → 0 < length bytes → get_or bytes 0 0 < 128 → IsUtf8 said
said_utf8 said bytes u l a =
    let e : get_or (said ++ bytes) (length said + 0) 0 ≡ get_or bytes 0 0 = get_or-append-add said bytes 0 0 in
    let z : length said + 0 ≡ length said = omega arith in
    let f : get_or (said ++ bytes) (length said) 0 ≡ get_or bytes 0 0 = ap (λ y. get_or (said ++ bytes) y 0) (sym z) ∙ e in
    let b = IsCharBoundary-before_ascii (said ++ bytes) (length said) (omega (arith, length-append said bytes)) (omega (arith, f, a)) in
    subst IsUtf8 (take-append_seam said bytes) (IsUtf8-take (said ++ bytes) (length said) u b)

-- a text may be split after an ASCII byte
pub rest_utf8 : (said bytes : List ℕ) (len : ℕ) → IsUtf8 (said ++ bytes) → len < length bytes → get_or bytes len 0 < 128 → IsUtf8 (drop (len + 1) bytes)
rest_utf8 said bytes len u l a =
    let f : get_or (said ++ bytes) (length said + len) 0 ≡ get_or bytes len 0 = get_or-append-add said bytes len 0 in
    let b = IsCharBoundary-after_ascii (said ++ bytes) (length said + len) u (omega (arith, length-append said bytes)) (omega (arith, f, a)) in
    let q : length said + len + 1 ≡ length said + (len + 1) = omega arith in
    subst IsUtf8 (ap (λ y. drop y (said ++ bytes)) q ∙ drop-append-add said bytes (len + 1)) (IsUtf8-drop (said ++ bytes) (length said + len + 1) u b)

-- an escape that ends in an ASCII byte may be replaced by its code point
pub escape_utf8 : (said bytes : List ℕ) (code len : ℕ) → IsUtf8 (said ++ bytes) → get_or bytes 0 0 < 128 → len < length bytes
    → get_or bytes len 0 < 128 → IsScalar code → IsUtf8 ((said ++ encode_utf8 code) ++ drop (len + 1) bytes)
escape_utf8 said bytes code len u a l z s =
    IsUtf8-append (said ++ encode_utf8 code) (drop (len + 1) bytes) (IsUtf8-append said (encode_utf8 code) (said_utf8 said bytes u (omega arith) a) (IsUtf8-encode code s)) (rest_utf8 said bytes len u l z)
