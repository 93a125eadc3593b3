-- The bytes of a mark determine it.
use Rattle.cel_tokens.proofs.Prelude.{arith, ◌≡◌, ℕ, List, [], ◌∷◌, take, Option, Some, sym, subst, ap, inl, inr, ◌⊎◌, front_mark, mark_at, mark_of, of_one, of_two, one_byte, two_bytes, mark, mark_word, Mark}
use Rattle.cel_tokens.specs.Lexed as front

pub of_one_is : (o : Option Mark) (m : Mark) (n : ℕ) → of_one o ≡ Some (m, n) → (o ≡ Some m) × (n ≡ 1)
of_one_is o m n h0 = grind arith

pub of_two_is : (two one : Option Mark) (m : Mark) (n : ℕ) → of_two two one ≡ Some (m, n) → ((two ≡ Some m) × (n ≡ 2)) ⊎ ((one ≡ Some m) × (n ≡ 1))
of_two_is two one m n h0 = grind arith

pub taken : (bytes : List ℕ) (m : Mark) (n : ℕ) → mark_at bytes ≡ Some (m, n) → mark_word (mark_of (take n bytes)) ≡ mark m
taken [] m n e = absurd (cc)
taken (a ∷ []) m n e =
    let p = of_one_is (one_byte a) m n e in
    subst (λ (k : ℕ). mark_word (mark_of (take k (a ∷ []))) ≡ mark m) (sym p.1) (ap mark_word p.0)
taken (a ∷ b ∷ bs) m n e =
    elim (of_two_is (two_bytes a b) (one_byte a) m n e) [
      | inl p ↦ subst (λ (k : ℕ). mark_word (mark_of (take k (a ∷ b ∷ bs))) ≡ mark m) (sym p.1) (ap mark_word p.0)
      | inr p ↦ subst (λ (k : ℕ). mark_word (mark_of (take k (a ∷ b ∷ bs))) ≡ mark m) (sym p.1) (ap mark_word p.0)
    ]

pub mark_shown : (bytes : List ℕ) (m : Mark) (n : ℕ) → mark_at bytes ≡ Some (m, n) → front.word n (mark_word (mark_of (take n bytes))) ≡ front_mark (mark_at bytes)
mark_shown bytes m n e =
    subst (λ (o : Option (Mark × ℕ)). front.word n (mark_word (mark_of (take n bytes))) ≡ front_mark o) (sym e) (ap (front.word n) (taken bytes m n e))
