-- The computed value of a text literal is that of its pieces.
use Rattle.cel_tokens.proofs.Prelude.{◌≡◌, ℕ, suc, zero, ◌+◌, ◌-◌, ◌<◌, ◌≤◌, List, [], ◌∷◌, ◌++◌, length, drop, refl, sym, ◌∙◌, ap, subst, arith, Bool, true, false, Option, Some, None, ◌≢◌, ◌==◌, option_and_then, IfSome, cases_lt, nat_tests, append-nil, append_assoc, length-drop, content, piece, LiteralMeans, closing, one_piece}
use mathlib.Core.Logic.{inl, inr}
use Rattle.cel_tokens.proofs.Contents.{ended, closes, goes_on, skipped, more_at}

-- ---- a piece has at least one byte

pub low : (raw : Bool) (b : ℕ) (bs : List ℕ) (x : ℕ × List ℕ) → piece raw (b ∷ bs) ≡ Some x → 1 ≤ x.0
low raw b bs x e = subst (λ (o : Option (ℕ × List ℕ)). IfSome o (λ x. 1 ≤ x.0)) e (grind arith)

-- ---- the value of the pieces is computed

some_left : {raw : Bool} {quote n : ℕ} {ys said : List ℕ} → LiteralMeans raw quote ys n said → 0 < length ys
some_left h0 = grind arith

behind : (k b : ℕ) (bs : List ℕ) → 1 ≤ k → drop (k - 1) bs ≡ drop k (b ∷ bs)
behind k b bs h0 = grind arith

abbrev literal : ℕ → List ℕ → Option (ℕ × List ℕ)
literal k xs = Some (k, xs)

answer : (k m : ℕ) (xs ys : List ℕ) → k ≡ m → xs ≡ ys → literal k xs ≡ literal m ys
answer k m xs ys e f = λ i. literal (e i) (f i)

pub computed : {raw : Bool} {quote n : ℕ} {ys said : List ℕ} → LiteralMeans raw quote ys n said → (m : ℕ) (so_far : List ℕ) → content raw quote 0 m so_far ys ≡ Some (m + n, so_far ++ said)
computed {raw} {quote} (closing {rest = rest}) m so_far = closes raw quote m quote so_far rest refl ∙ answer (m + 1) (m + 1) so_far (so_far ++ []) refl (sym (append-nil so_far))
computed {raw} {quote} (one_piece {b = b} {n = n} {bs = bs} {said = said} x d e s) m so_far =
    let l = low raw b bs x e in
    let t = some_left s in
    let h : x.0 ≤ length (b ∷ bs) = omega (arith, t, length-drop x.0 (b ∷ bs)) in
    more_at raw quote m b so_far bs x d e l h
    ∙ (ap (content raw quote 0 (m + x.0) (so_far ++ x.1)) (behind x.0 b bs l)
    ∙ (computed s (m + x.0) (so_far ++ x.1) ∙ answer (m + x.0 + n) (m + (x.0 + n)) ((so_far ++ x.1) ++ said) (so_far ++ (x.1 ++ said)) (omega arith) (append_assoc so_far x.1 said)))

-- ---- what is computed is the value of pieces

-- a piece that extends past the end leaves nothing
run_off : (raw : Bool) (quote skip n : ℕ) (said bs : List ℕ) → length bs < skip → content raw quote skip n said bs ≡ None
unfolding content
run_off raw quote skip n said [] h = refl
run_off raw quote zero n said (b ∷ bs) h = absurd (omega arith)
run_off raw quote (suc skip) n said (b ∷ bs) h = run_off raw quote skip (n + 1) said bs (omega arith)

-- the pieces from here on, after the bytes so far and their value
abbrev Found : Bool → ℕ → ℕ → List ℕ → List ℕ → ℕ × List ℕ → Type 0
Found raw quote m so_far bytes y = (n : ℕ) × (said : List ℕ) × LiteralMeans raw quote bytes n said × (m + n ≡ y.0) × (so_far ++ said ≡ y.1)

abbrev Finds : ℕ → Bool → ℕ → Type 0
Finds fuel raw quote =
    (m : ℕ) (so_far bytes : List ℕ) (y : ℕ × List ℕ) → length bytes ≤ fuel → content raw quote 0 m so_far bytes ≡ Some y → Found raw quote m so_far bytes y

some_same : (x y : ℕ × List ℕ) → Some x ≡ Some y → x ≡ y
some_same x y e = cc

none_some : {P : Type 0} (o : Option (ℕ × List ℕ)) (y : ℕ × List ℕ) → o ≡ None → o ≡ Some y → P
none_some o y e f = absurd cc

no_quote_here : (b quote : ℕ) → (b == quote) ≡ false → b ≢ quote
no_quote_here b quote e = grind (arith, nat_tests)

at_closing : (raw : Bool) (quote m b : ℕ) (so_far bs : List ℕ) (y : ℕ × List ℕ) → b ≡ quote → content raw quote 0 m so_far (b ∷ bs) ≡ Some y → Found raw quote m so_far (b ∷ bs) y
at_closing raw quote m b so_far bs y q e =
    let p : (m + 1, so_far) ≡ y = some_same (m + 1, so_far) y (sym (closes raw quote m b so_far bs q) ∙ e) in
    (1, [], subst (λ (k : ℕ). LiteralMeans raw k (b ∷ bs) 1 []) q closing, ap (λ (z : ℕ × List ℕ). z.0) p, append-nil so_far ∙ ap (λ (z : ℕ × List ℕ). z.1) p)

-- from a byte on, if pieces are found in every shorter rest
module _ (fuel : ℕ) (raw : Bool) (quote : ℕ) (more : Finds fuel raw quote) (m b : ℕ) (so_far bs : List ℕ) (y : ℕ × List ℕ) (l : length bs ≤ fuel) where
  at_piece : (x : ℕ × List ℕ) → b ≢ quote → piece raw (b ∷ bs) ≡ Some x → x.0 - 1 ≤ length bs → content raw quote (x.0 - 1) (m + 1) (so_far ++ x.1) bs ≡ Some y
      → Found raw quote m so_far (b ∷ bs) y
  at_piece x d e h c =
      let k = x.0 - 1 in
      let s = low raw b bs x e in
      let n = length-drop k bs in
      let f = more (m + 1 + k) (so_far ++ x.1) (drop k bs) y (omega (arith, n, l)) (sym (skipped raw quote k (m + 1) (so_far ++ x.1) bs h) ∙ c) in
      let sum = f.3 in
      (x.0 + f.0, x.1 ++ f.1, one_piece x d e (subst (λ (zs : List ℕ). LiteralMeans raw quote zs f.0 f.1) (behind x.0 b bs s) f.2), omega (arith, s, sum), sym (append_assoc so_far x.1 f.1) ∙ f.4)

  by_length : (x : ℕ × List ℕ) → b ≢ quote → piece raw (b ∷ bs) ≡ Some x → content raw quote (x.0 - 1) (m + 1) (so_far ++ x.1) bs ≡ Some y
      → Found raw quote m so_far (b ∷ bs) y
  by_length x d e c =
      elim (cases_lt (length bs) (x.0 - 1)) [ inl h ↦ none_some _ y (run_off raw quote (x.0 - 1) (m + 1) (so_far ++ x.1) bs h) c | inr h ↦ at_piece x d e h c ]

  by_piece : b ≢ quote → (o : Option (ℕ × List ℕ)) → piece raw (b ∷ bs) ≡ o → option_and_then (λ x. content raw quote (x.0 - 1) (m + 1) (so_far ++ x.1) bs) o ≡ Some y
      → Found raw quote m so_far (b ∷ bs) y
  by_piece d None e c = none_some None y refl c
  by_piece d (Some x) e c = by_length x d e c

  by_quote : (t : Bool) → (b == quote) ≡ t → content raw quote 0 m so_far (b ∷ bs) ≡ Some y → Found raw quote m so_far (b ∷ bs) y
  by_quote true t c = at_closing raw quote m b so_far bs y (grind (arith, nat_tests)) c
  by_quote false t c =
      let d = no_quote_here b quote t in
      by_piece d (piece raw (b ∷ bs)) refl (sym (goes_on raw quote m b so_far bs d) ∙ c)

finds : (fuel : ℕ) (raw : Bool) (quote : ℕ) → Finds fuel raw quote
finds fuel raw quote m so_far [] y l c = none_some _ y (ended raw quote 0 m so_far) c
finds zero raw quote m so_far (b ∷ bs) y l c = absurd (omega arith)
finds (suc fuel) raw quote m so_far (b ∷ bs) y l c = by_quote fuel raw quote (finds fuel raw quote) m b so_far bs y (omega arith) (b == quote) refl c

said : (raw : Bool) (quote : ℕ) (bytes : List ℕ) (n : ℕ) (value : List ℕ) → content raw quote 0 0 [] bytes ≡ Some (n, value) → LiteralMeans raw quote bytes n value
said raw quote bytes n value c =
    let f = finds (length bytes) raw quote 0 [] bytes (n, value) (omega arith) c in
    let e : f.0 ≡ n = omega (arith, f.3) in
    subst (λ (k : ℕ). LiteralMeans raw quote bytes k value) e (subst (λ (xs : List ℕ). LiteralMeans raw quote bytes f.0 xs) f.4 f.2)

back : (raw : Bool) (quote : ℕ) (bytes : List ℕ) (n : ℕ) (value : List ℕ) → LiteralMeans raw quote bytes n value → content raw quote 0 0 [] bytes ≡ Some (n, value)
back raw quote bytes n value s = computed s 0 [] ∙ answer (0 + n) n ([] ++ value) value (omega arith) refl

pub says_its_pieces : (raw : Bool) (quote : ℕ) (bytes : List ℕ) (n : ℕ) (value : List ℕ) → (content raw quote 0 0 [] bytes ≡ Some (n, value) → LiteralMeans raw quote bytes n value) × (LiteralMeans raw quote bytes n value → content raw quote 0 0 [] bytes ≡ Some (n, value))
says_its_pieces raw quote bytes n value = (said raw quote bytes n value, back raw quote bytes n value)
