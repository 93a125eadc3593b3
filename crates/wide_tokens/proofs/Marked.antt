-- The bytes of a mark determine it.
use Rattle.wide_tokens.proofs.Prelude.{◌≡◌, ℕ, List, [], ◌∷◌, take, Option, None, Some, sym, ◌∙◌, subst, ap, inl, inr, front_mark, front_other, mark_at, mark_of, of_one, of_two, one_byte, two_bytes, mark, mark_word, quoted_at, Mark}
use Rattle.wide_tokens.specs.Lexed as front
use Rattle.wide_tokens.specs.Lexed.{quoted_front}
use Rattle.cel_tokens.proofs.Marked.{of_one_is, of_two_is}

taken : (bytes : List ℕ) (m : Mark) (n : ℕ) → mark_at bytes ≡ Some (m, n) → mark_word (mark_of (take n bytes)) ≡ mark m
taken [] m n e = absurd (cc)
taken (a ∷ []) m n e =
    let p = of_one_is (one_byte a) m n e in
    subst (λ (k : ℕ). mark_word (mark_of (take k (a ∷ []))) ≡ mark m) (sym p.1) (ap mark_word p.0)
taken (a ∷ b ∷ bs) m n e =
    elim (of_two_is (two_bytes a b) (one_byte a) m n e) [
      | inl p ↦ subst (λ (k : ℕ). mark_word (mark_of (take k (a ∷ b ∷ bs))) ≡ mark m) (sym p.1) (ap mark_word p.0)
      | inr p ↦ subst (λ (k : ℕ). mark_word (mark_of (take k (a ∷ b ∷ bs))) ≡ mark m) (sym p.1) (ap mark_word p.0)
    ]

pub mark_shown : (bytes : List ℕ) (m : Mark) (n : ℕ) → quoted_at bytes ≡ None → mark_at bytes ≡ Some (m, n)
    → front.word n (mark_word (mark_of (take n bytes))) ≡ front_other bytes
mark_shown bytes m n none e = ap (front.word n) (taken bytes m n e) ∙ sym (ap (quoted_front bytes) none ∙ ap front_mark e)
