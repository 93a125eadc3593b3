-- A text contains another exactly if the search finds it.
use Rattle.helper_table.proofs.Prelude.{◌≡◌, ◌<◌, ℕ, suc, List, [], ◌∷◌, length, take, Option, Some, None, true, false, sym, ap, ⊎_elim, arith, length-take, cases_Bool, or_cases, or_left, or_right, starts_with, is_some, nat_eq, OccursAt, FindsNeedle, OccursAt-part, OccursAt-from_part, contains}
use lib.Pointwise.{bytes_decides}

starts_at : (hay needle : List ℕ) → starts_with nat_eq hay needle ≡ true → OccursAt hay needle 0
starts_at hay needle e =
    let part : take (length needle) hay ≡ needle = sym ((bytes_decides needle (take (length needle) hay)).0 e) in
    OccursAt-from_part hay needle 0 (omega (arith, ap length part, length-take (length needle) hay)) part

starts_if : (hay needle : List ℕ) → OccursAt hay needle 0 → starts_with nat_eq hay needle ≡ true
starts_if hay needle at = (bytes_decides needle (take (length needle) hay)).1 (sym (OccursAt-part hay needle 0 at))

record Stands (hay needle : List ℕ) : Type 0 where
  place : ℕ
  at : OccursAt hay needle place

later : (b : ℕ) (bs needle : List ℕ) (k : ℕ) → OccursAt bs needle k → OccursAt (b ∷ bs) needle (suc k)
later b bs needle k at = grind arith

earlier : (b : ℕ) (bs needle : List ℕ) (k : ℕ) → OccursAt (b ∷ bs) needle (suc k) → OccursAt bs needle k
earlier b bs needle k at = grind arith

stands : (hay needle : List ℕ) → contains hay needle ≡ true → Stands hay needle
stands [] needle e = record { place = 0; at = starts_at [] needle e }
stands (b ∷ bs) needle e =
    ⊎_elim (λ first. record { place = 0; at = starts_at (b ∷ bs) needle first })
    (λ rest. let found = stands bs needle rest in record { place = suc found.place; at = later b bs needle found.place found.at })
    (or_cases (starts_with nat_eq (b ∷ bs) needle) (contains bs needle) e)

contains_if : (hay needle : List ℕ) (k : ℕ) → OccursAt hay needle k → contains hay needle ≡ true
contains_if (b ∷ bs) needle (suc k) at = or_right _ _ (contains_if bs needle k (earlier b bs needle k at))
contains_if hay needle k at = grind (arith, starts_if, or_left)

pub finds_part : (hay needle : List ℕ) (r : Option ℕ) → FindsNeedle hay needle 0 r → is_some r ≡ contains hay needle
finds_part hay needle (Some k) h = sym (contains_if hay needle k h.1)
finds_part hay needle None h =
    ⊎_elim (λ yes_is. let found = stands hay needle yes_is in let fits = found.at.fits in absurd (h found.place (omega arith) (omega arith) found.at))
    (λ no_is. sym no_is) (cases_Bool (contains hay needle))

-- a longer text is no part
pub too_long : (hay needle : List ℕ) → length hay < length needle → contains hay needle ≡ false
too_long hay needle long =
    ⊎_elim (λ yes_is. let found = stands hay needle yes_is in let fits = found.at.fits in absurd (omega arith))
    (λ no_is. no_is) (cases_Bool (contains hay needle))
