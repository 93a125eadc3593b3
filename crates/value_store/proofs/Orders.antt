-- The order of two texts, from the first position at which they differ.
use Rattle.value_store.proofs.Prelude.{◌≡◌, ◌≢◌, ◌<◌, ◌≤◌, ℕ, suc, ◌+◌, List, ◌∷◌, length, get_or, Bool, true, false, arith, ◌==◌, nat_lt, cond, first_difference_of, text_less}

-- the order by the position: one text ends there, or two bytes differ there
pub record Differs (a b : List ℕ) (p : ℕ) : Type 0 where
  pub first_within : p ≤ length a
  pub second_within : p ≤ length b
  pub second_ends : p ≡ length b → text_less a b ≡ false
  pub first_ends : p ≡ length a → (p ≢ length b) → text_less a b ≡ true
  pub apart : (c d : ℕ) → p < length a → p < length b → text_less a b ≡ nat_lt (get_or a p c) (get_or b p d)

one_more : (x y : ℕ) (a b : List ℕ) (p : ℕ) → text_less (x ∷ a) (y ∷ b) ≡ text_less a b → Differs a b p → Differs (x ∷ a) (y ∷ b) (suc p)
one_more x y a b p e t = grind arith

heads : (x y : ℕ) (a b : List ℕ) (same : Bool) → (x == y) ≡ same → Differs a b (first_difference_of a b) → Differs (x ∷ a) (y ∷ b) (cond same (1 + first_difference_of a b) 0)
heads x y a b same e t = grind arith

pub differs : (a b : List ℕ) → Differs a b (first_difference_of a b)
differs (x ∷ a) (y ∷ b) = grind (arith, heads, differs a b)
differs a b = grind arith
