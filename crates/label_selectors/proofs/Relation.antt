-- Selecting as a relation.
use Rattle.label_selectors.proofs.Prelude.{◌≡◌, ◌==◌, ℕ, suc, true, List, [], ◌∷◌, length, refl, sym, Option, Some, None, list_all, bytes_eq, All, Contains, Labels, LabelSelector, Requirement, Operator, In, NotIn, Exists, DoesNotExist, Fits, FitsValue, fits, fits_value, is_empty, is_one_of, requirements, selects, arith, eqb-true, Decides, Decides-by_and, Decides-by_or, Decides-contains, Decides-like, Decides-not, bytes_eq-Decides}

decides_one_of : (v : List ℕ) (vs : List (List ℕ)) → Decides (is_one_of v vs) (Contains vs v)
decides_one_of v vs =
    Decides-contains vs v (is_one_of v vs)
    (Decides-by_or (bytes_eq v) (λ y. y ≡ v) (is_one_of v) (λ y. Decides-like (bytes_eq v y) (λ e. sym e) (λ e. sym e) (bytes_eq-Decides v y)) refl (λ _ _. refl) vs)

decides_value : (o : Operator) (vs : List (List ℕ)) (v : Option (List ℕ)) → Decides (fits_value o vs v) (FitsValue o vs v)
decides_value In vs (Some v) = decides_one_of v vs
decides_value In vs None = (λ e. cc, λ h. absurd h)
decides_value NotIn vs (Some v) = Decides-not (is_one_of v vs) (decides_one_of v vs)
decides_value NotIn vs None = (λ e. tt, λ h. refl)
decides_value Exists vs (Some v) = (λ e. refl, λ h. refl)
decides_value Exists vs None = (λ e. e, λ h. h)
decides_value DoesNotExist vs (Some v) = (λ e. sym e, λ h. sym h)
decides_value DoesNotExist vs None = (λ e. refl, λ h. refl)

pub selects_by_all : (s : LabelSelector) (labels : Labels) → Decides (selects s labels) (All (Fits labels) (requirements s))
selects_by_all s labels =
    Decides-by_and (fits labels) (Fits labels) (list_all (fits labels)) (λ r. decides_value r.operator r.values (labels r.key)) refl (λ _ _. refl) (requirements s)

no_more : (n : ℕ) → (suc n == 0) ≡ true → ⊥
no_more n e = let h : suc n ≡ 0 = eqb-true (suc n) 0 e in omega arith

all_of_none : (labels : Labels) (rs : List Requirement) → (length rs == 0) ≡ true → list_all (fits labels) rs ≡ true
all_of_none labels [] e = refl
all_of_none labels (r ∷ rs) e = absurd (no_more (length rs) e)

pub empty_selects_all : (s : LabelSelector) (labels : Labels) → is_empty s ≡ true → selects s labels ≡ true
empty_selects_all s labels e = all_of_none labels (requirements s) e
