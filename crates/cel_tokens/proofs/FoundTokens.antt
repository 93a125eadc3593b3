-- The token of each kind of front.
use Rattle.cel_tokens.proofs.Prelude.{◌≡◌, ℕ, suc, ◌+◌, ◌≤◌, List, [], ◌∷◌, ◌++◌, length, take, drop, refl, sym, ◌∙◌, ap, subst, arith, Bool, true, false, Option, Some, pos, neg_ℤ, length-take-le, length-drop, length-append, append_assoc, take-take, take-append-drop, take-append_seam, Mark, name, int, text, mark, mark_word, is_letter, is_name_byte, run, mark_at, mark_of, one_byte, two_bytes, opening_len, is_quote, is_raw_prefix, LiteralMeans, Skips, none, blank, comment, IsToken, HasToken, a_name, a_signed_int, a_mark, a_text, a_raw_text, FollowsSign}
use mathlib.Core.Logic.{inl, inr}
use Rattle.cel_tokens.proofs.Runs.{run_within}
use Rattle.cel_tokens.proofs.Marked as marked
use Rattle.cel_tokens.proofs.NegatedInts.{front_passes, taken}
use Rattle.cel_tokens.proofs.OwnBytes.{says_within, says_alike}

-- ---- text literals

-- a literal without the text after it
own : (raw : Bool) (quote n : ℕ) (bytes said : List ℕ) → LiteralMeans raw quote bytes n said → (n ≤ length bytes)
    × LiteralMeans raw quote (take n bytes) (length (take n bytes)) said
own raw quote n bytes said s = grind (arith, says_within, length-take-le, says_alike, take-take)

-- the first byte of a literal, or the first two of a raw one
abbrev pub Opens : Bool → ℕ → ℕ → List ℕ → Type 0
Opens false quote b bs = (b ≡ quote) × (is_quote quote ≡ true)
Opens true quote b [] = ⊥
Opens true quote b (c ∷ cs) = (c ≡ quote) × (is_raw_prefix b ≡ true) × (is_quote quote ≡ true)

pub text_token : (signed raw : Bool) (quote b n : ℕ) (bs said : List ℕ) → Opens raw quote b bs → LiteralMeans raw quote (drop (opening_len raw) (b ∷ bs)) n said
    → HasToken signed (b ∷ bs) (opening_len raw + n) (text said)
text_token signed false quote b n bs said o s =
    let w = own false quote n bs said s in
    let h = w.0 in
    let q : 1 + n ≡ suc n = omega arith in
    (omega (arith, h), rw q (subst (λ k. IsToken signed (k ∷ take n bs) (text said)) (sym o.0) (a_text o.1 w.1)))
text_token signed true quote b n [] said o s = absurd o
text_token signed true quote b n (c ∷ cs) said o s =
    let w = own true quote n cs said s in
    let h = w.0 in
    let q : 2 + n ≡ suc (suc n) = omega arith in
    (omega (arith, h), rw q (subst (λ k. IsToken signed (b ∷ k ∷ take n cs) (text said)) (sym o.0) (a_raw_text o.1 o.2 w.1)))

-- ---- names and marks

pub name_token : (signed : Bool) (b : ℕ) (bs : List ℕ) → is_letter b ≡ true
    → HasToken signed (b ∷ bs) (run is_name_byte (b ∷ bs)) (name (take (run is_name_byte (b ∷ bs)) (b ∷ bs)))
name_token signed b bs l =
    let e = taken is_name_byte b bs (rw l refl) in
    (run_within is_name_byte (b ∷ bs), rw e (a_name {bytes = b ∷ take (run is_name_byte bs) bs} (l, front_passes is_name_byte bs)))

mark_within : (bytes : List ℕ) (m : Mark) (n : ℕ) → mark_at bytes ≡ Some (m, n) → n ≤ length bytes
mark_within [] m n e = absurd cc
mark_within (a ∷ []) m n e = let p = marked.of_one_is (one_byte a) m n e in let q = p.1 in omega (arith, q)
mark_within (a ∷ b ∷ bs) m n e =
    elim (marked.of_two_is (two_bytes a b) (one_byte a) m n e) [ inl p ↦ (let q = p.1 in omega (arith, q)) | inr p ↦ (let q = p.1 in omega (arith, q)) ]

no_word : (o : Option Mark) (m : Mark) → mark_word o ≡ mark m → o ≡ Some m
no_word o m h0 = grind arith

pub mark_token : (signed : Bool) (bytes : List ℕ) (m : Mark) (n : ℕ) → mark_at bytes ≡ Some (m, n) → HasToken signed bytes n (mark m)
mark_token signed bytes m n e = (mark_within bytes m n e, a_mark (no_word (mark_of (take n bytes)) m (marked.taken bytes m n e)))

-- ---- ints with a sign

-- without the bytes after it
cut : {bytes rest : List ℕ} → Skips bytes rest → (digits more : List ℕ) → rest ≡ digits ++ more → (first : List ℕ) × (bytes ≡ first ++ more)
    × Skips first digits
cut none digits more e = (digits, e, none)
cut (blank {b = b} h s) digits more e = let c = cut s digits more e in (b ∷ c.0, ap (λ (xs : List ℕ). b ∷ xs) c.1, blank h c.2)
cut (comment inside after a h s) digits more e =
    let c = cut s digits more e in (
      47 ∷ 47 ∷ (inside ++ c.0),
      ap (λ (xs : List ℕ). 47 ∷ 47 ∷ xs) (ap (λ (xs : List ℕ). inside ++ xs) c.1 ∙ sym (append_assoc inside c.0 more)),
      comment inside c.0 a (grind arith) c.2,
    )

pub signed_token : (bytes : List ℕ) (gap n value : ℕ) → FollowsSign bytes gap n value
    → HasToken true (45 ∷ bytes) (1 + gap + n) (int (neg_ℤ (pos value)))
signed_token bytes gap n value f =
    let digits = drop gap bytes in
    let c = cut f.1 (take n digits) (drop n digits) (sym (take-append-drop n digits)) in
    let within = f.0 in
    let some = f.2.0 in
    let l : length c.0 ≡ gap + n = omega (arith, within, some, ap length c.1, length-append c.0 (drop n digits), length-drop n digits, length-drop gap bytes) in
    let q : 1 + gap + n ≡ suc (length c.0) = omega (arith, l) in
    let t : take (length c.0) bytes ≡ c.0 = ap (take (length c.0)) c.1 ∙ take-append_seam c.0 (drop n digits) in
    (omega (arith, within, some, length-drop gap bytes), rw (q, t) (a_signed_int c.2 f.2.1))
