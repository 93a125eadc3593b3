-- `front` finds what is at the front of a text.
use Rattle.cel_tokens.proofs.Prelude.{◌≡◌, ℕ, suc, ◌+◌, ◌≤◌, List, [], ◌∷◌, take, drop, refl, sym, ap, subst, arith, Bool, true, false, Option, Some, None, if◌then◌else◌, ℤ, pos, neg_ℤ, cases_lt, take-append-drop, Word, int, text, between, opening, opening_len, content, is_quote, int_at, fits64, digit_begins, front, front_text, front_int, int_front, before_digits, IsGap, IsInt, HasToken, OpensText, IsTextWord, DigitsAt, StandsAtFront, FindsWhatStands, an_int, here, behind_sign, by_quote, by_prefix}
use mathlib.Core.Logic.{inl, inr}
use Rattle.cel_tokens.specs.Lexed as front
use Rattle.cel_tokens.proofs.Fronts.{front_nil, front_space}
use Rattle.cel_tokens.proofs.LongestGap.{is_longest_gap}
use Rattle.cel_tokens.proofs.NegatedInts.{int_is}
use Rattle.cel_tokens.proofs.SaidPieces.{says_its_pieces}
use Rattle.cel_tokens.proofs.IntsFit.{found_fits}
use Rattle.cel_tokens.proofs.FrontCases as case
use Rattle.cel_tokens.proofs.FrontCases.{Found}
use Rattle.cel_tokens.proofs.FoundTokens.{Opens, text_token, name_token, mark_token, signed_token}
use Rattle.cel_tokens.proofs.LongestToken.{longest, longest_wide, none_begins, text_found}

-- ---- text literals

opens_text : (raw : Bool) (quote b : ℕ) (bs : List ℕ) → Opens raw quote b bs → OpensText (b ∷ bs)
opens_text false quote b bs o = by_quote (subst (λ k. is_quote k ≡ true) (sym o.0) o.1)
opens_text true quote b [] o = absurd o
opens_text true quote b (c ∷ cs) o = by_prefix o.1 (subst (λ k. is_quote k ≡ true) (sym o.0) o.2)

opens_none : {bytes : List ℕ} → OpensText bytes → opening bytes ≡ None → ⊥
opens_none h0 h1 = grind arith

-- a literal at the front is found
no_text : (signed : Bool) (bytes : List ℕ) → front signed bytes ≡ front.wrong_text → (n : ℕ) (said : List ℕ) → HasToken signed bytes n (text said) → ⊥
no_text signed bytes e n said t =
    let f = text_found (take n bytes) said t.1 (drop n bytes) in
    let g = ap (front signed) (take-append-drop n bytes) in
    absurd cc

-- ---- by cases

abbrev bare : List ℕ → Type 0
bare bytes = IsGap bytes 0

word_stands : (signed : Bool) (bytes : List ℕ) (n : ℕ) (w : Word) → front signed bytes ≡ front.word n w → bare bytes → (OpensText bytes → IsTextWord w)
    → HasToken signed bytes n w → StandsAtFront signed bytes (front.word n w)
word_stands signed bytes n w e g t h = (g, longest signed bytes n w e h, t, found_fits signed bytes n w e)

text_stands : (signed raw : Bool) (quote b : ℕ) (bs : List ℕ) (o : Option (ℕ × List ℕ)) → Opens raw quote b bs
    → content raw quote 0 0 [] (drop (opening_len raw) (b ∷ bs)) ≡ o → bare (b ∷ bs)
    → front signed (b ∷ bs) ≡ front_text (opening_len raw) o → StandsAtFront signed (b ∷ bs) (front_text (opening_len raw) o)
text_stands signed raw quote b bs o p c g e = grind (arith, opens_text, no_text, says_its_pieces, word_stands, text_token)

-- an int begins a text: neither a gap nor a text literal does, and its digits are found
record BeginsInt (bytes : List ℕ) (before n value : ℕ) : Type 0 where
  no_text : opening bytes ≡ None
  no_gap : bare bytes
  digits : DigitsAt bytes before
  int : IsInt (drop before bytes) n value

int_stands : (signed t : Bool) (bytes : List ℕ) (before n value : ℕ) (z : ℤ) → fits64 z ≡ t → BeginsInt bytes before n value
    → HasToken signed bytes (before + n) (int z) → front signed bytes ≡ int_front before n (if t then Some z else None)
    → StandsAtFront signed bytes (int_front before n (if t then Some z else None))
int_stands signed true bytes before n value z f begins h e =
    word_stands signed bytes (before + n) (int z) e begins.no_gap (λ t. absurd (opens_none t begins.no_text)) h
int_stands signed false bytes before n value z f begins h e =
    (n, value, z, begins.no_gap, begins.digits, begins.int, longest_wide signed bytes before n value (int z) e begins.int h, (grind arith))

-- the int of which a byte is the sign
abbrev Signed : List ℕ → Bool → ℕ → Type 0
Signed bs signed b =
    opening (b ∷ bs) ≡ None → digit_begins (drop (before_digits (b ∷ bs)) (b ∷ bs)) ≡ true → bare (b ∷ bs)
    → front signed (b ∷ bs) ≡ front_int true (before_digits (b ∷ bs)) (drop (before_digits (b ∷ bs)) (b ∷ bs))
    → StandsAtFront signed (b ∷ bs) (front_int true (before_digits (b ∷ bs)) (drop (before_digits (b ∷ bs)) (b ∷ bs)))

signed_stands : (bs : List ℕ) → Signed bs true 45
signed_stands bs o d g e =
    let gap = between false bs in
    let rest = drop (gap + 1) (45 ∷ bs) in
    let n = (int_at rest).0 in
    let v = (int_at rest).1 in
    let i = int_is rest d in
    let q : gap + 1 ≡ suc gap = omega arith in
    let p : gap + 1 ≡ 1 + gap = omega arith in
    let r : rest ≡ drop gap bs = ap (λ k. drop k (45 ∷ bs)) q in
    let f = is_longest_gap bs in
    let h = signed_token bs gap n v (f.0, f.1, subst (λ xs. IsInt xs n v) r i) in
    int_stands true (fits64 (neg_ℤ (pos v))) (45 ∷ bs) (gap + 1) n v (neg_ℤ (pos v)) refl
    (record { no_text = o; no_gap = g; digits = subst (DigitsAt (45 ∷ bs)) (sym p) (behind_sign f.0 f.1); int = i })
    (subst (λ k. HasToken true (45 ∷ bs) (k + n) (int (neg_ℤ (pos v)))) (sym p) h) e

stands : (signed : Bool) (b : ℕ) (bs : List ℕ) (x : front.Lexed) → Found signed b bs x → front signed (b ∷ bs) ≡ x → between false (b ∷ bs) ≤ 0
    → bare (b ∷ bs) → StandsAtFront signed (b ∷ bs) x
stands signed b bs x (case.a_gap n l q) e h g = absurd (omega (arith, l, q, h))
stands signed b bs x (case.a_text raw quote o) e h g = text_stands signed raw quote b bs _ (grind arith) refl g e
stands signed b bs x (case.a_name o l) e h g = word_stands signed (b ∷ bs) _ _ e g (λ t. absurd (opens_none t o)) (name_token signed b bs l)
stands signed b bs x (case.an_int o d) e h g =
    let i = int_is (b ∷ bs) d in
    let q : 0 + (int_at (b ∷ bs)).0 ≡ (int_at (b ∷ bs)).0 = omega arith in
    int_stands signed (fits64 (pos (int_at (b ∷ bs)).1)) (b ∷ bs) 0 (int_at (b ∷ bs)).0 (int_at (b ∷ bs)).1 (pos (int_at (b ∷ bs)).1) refl
    (record { no_text = o; no_gap = g; digits = here; int = i })
    (rw q (i.0, an_int i.1)) e
stands signed b bs x (case.a_signed_int o p q d) e h g =
    subst (λ s. Signed bs s b) (sym q) (subst (Signed bs true) (sym p) (signed_stands bs)) o d g e
stands signed b bs x (case.a_mark o l) e h g = grind (arith, opens_none, none_begins, word_stands, mark_token)

pub finds_what_stands : FindsWhatStands
finds_what_stands signed [] = rw (front_nil signed [] (omega arith)) refl
finds_what_stands signed (b ∷ bs) =
    let g = is_longest_gap (b ∷ bs) in
    elim (cases_lt 0 (between false (b ∷ bs))) [
      | inl h ↦ subst (StandsAtFront signed (b ∷ bs)) (sym (front_space signed (b ∷ bs) (between false (b ∷ bs)) (omega arith) refl h)) (omega (arith, h), g)
      | inr h ↦ (let z : between false (b ∷ bs) ≡ 0 = omega (arith, h) in stands signed b bs (front signed (b ∷ bs)) (case.found signed b bs) refl h (subst
          (IsGap (b ∷ bs)) z g))
    ]
