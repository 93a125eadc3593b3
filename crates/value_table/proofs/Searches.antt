-- One step of a binary search among keys in byte order.
use Rattle.value_table.proofs.Prelude.{◌≡◌, ℕ, zero, suc, ◌+◌, ◌≤◌, ◌<◌, List, [], ◌∷◌, ◌⊎◌, inl, inr, length, get_or, ap, ◌∙◌, arith, AllByRecursion, Ordering, Less, Greater, nat_cmp, ordering_reverse, slice_cmp, cases_lt, get_or_default, nat_list_cmp_total, Ascend}
use Rattle.std.specs.List.Sorted.{IsStrictlySortedBy}

abbrev order : List ℕ → List ℕ → Ordering
order a b = slice_cmp nat_cmp a b

all_at : (k : List ℕ) (ks : List (List ℕ)) (j : ℕ) (d : List ℕ) → AllByRecursion (λ l. order k l ≡ Less) ks → j < length ks → order k (get_or ks j d) ≡ Less
all_at k [] j d h l = absurd (omega arith)
all_at k (x ∷ ks) zero d h l = h.0
all_at k (x ∷ ks) (suc j) d h l = all_at k ks j d h.1 (omega arith)

pub ascend_at : (ks : List (List ℕ)) (i j : ℕ) (d e : List ℕ) → Ascend ks → i < j → j < length ks → order (get_or ks i d) (get_or ks j e) ≡ Less
unfolding IsStrictlySortedBy
ascend_at [] i j d e h l m = absurd (omega arith)
ascend_at (k ∷ ks) i zero d e h l m = absurd (omega arith)
ascend_at (k ∷ ks) zero (suc j) d e h l m = all_at k ks j e h.0 (omega arith)
ascend_at (k ∷ ks) (suc i) (suc j) d e h l m = ascend_at ks i j d e h.1 (omega arith) (omega arith)

reversed : (a b : List ℕ) (o : Ordering) → order a b ≡ o → order b a ≡ ordering_reverse o
reversed a b o e = nat_list_cmp_total.antisymm b a ∙ ap ordering_reverse e

above_step : (ks : List (List ℕ)) (key : List ℕ) (m j : ℕ) (d e : List ℕ) → Ascend ks → m < length ks → order key (get_or ks m d) ≡ Greater → j < m → order key (get_or ks j e) ≡ Greater
above_step ks key m j d e h l g k = grind (arith, ascend_at, nat_list_cmp_total, get_or, reversed)

-- less than a place, or equal to it
pub up_to : (m j : ℕ) → j < m + 1 → (j < m) ⊎ (m ≡ j)
up_to m j k = elim (cases_lt j m) [ inl n ↦ inl n | inr n ↦ inr (omega arith) ]

-- a key greater than the one at m is greater than all up to it
pub above_all : (ks : List (List ℕ)) (key : List ℕ) (m j : ℕ) (d e : List ℕ) → Ascend ks → m < length ks → order key (get_or ks m d) ≡ Greater
    → j < m + 1 → order key (get_or ks j e) ≡ Greater
above_all ks key m j d e h l g k = grind (arith, up_to, above_step, get_or, get_or_default)

-- a key less than the one at m is less than all from it on
pub below_all : (ks : List (List ℕ)) (key : List ℕ) (m j : ℕ) (d e : List ℕ) → Ascend ks → m < length ks → order key (get_or ks m d) ≡ Less → m ≤ j
    → j < length ks → order key (get_or ks j e) ≡ Less
below_all ks key m j d e h l g k n = grind (arith, up_to, nat_list_cmp_total, get_or, ascend_at, get_or_default)
