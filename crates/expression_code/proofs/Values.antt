-- References, and what tests of them show about their values.
use Rattle.expression_code.proofs.Prelude.{◌≡◌, ℕ, zero, suc, ◌^◌, ◌<◌, List, Bool, true, false, not, refl, ap, arith, Some, length, ◌++◌, ◌∷◌, [], subst, nat_eq, slice_get, All, ne_eqb, slice_get_within, holds_of, Names, IsTable, IsResultBounded, Eq, Ne, W64, AreCanonical, IsStore, Value, ValueOrError, error, value, null, boolean, is_error, Truth, Yes, No, Other, truth, is_no, is_yes, compares, All-head, All-tail}
use Rattle.value_store.specs.Placing.{Contents}

-- the references of a table are small, so they are words
pub short_reference : (values : Contents) (r : ℕ) (x : ValueOrError) → IsTable values → Names values.values r x → r < 2 ^ 32
short_reference values r x table named = grind (arith, slice_get_within)

pub small_reference : (values : Contents) (r : ℕ) (x : ValueOrError) → IsTable values → Names values.values r x → r < 2 ^ 64
small_reference values r x table named = omega (arith, short_reference values r x table named)

-- places in joined lists
pub get_before : {X : Type 0} (xs ys : List X) (i : ℕ) (x : X) → slice_get xs i ≡ Some x → slice_get (xs ++ ys) i ≡ Some x
get_before [] ys i x h = cc
get_before (y ∷ xs) ys zero x h = h
get_before (y ∷ xs) ys (suc i) x h = get_before xs ys i x h

pub get_at : {X : Type 0} (xs ys : List X) (x : X) → slice_get (xs ++ x ∷ ys) (length xs) ≡ Some x
get_at [] ys x = refl
get_at (y ∷ xs) ys x = get_at xs ys x

pub get_front : {X : Type 0} (xs ys : List X) (i : ℕ) (x : X) → i < length xs → slice_get (xs ++ ys) i ≡ Some x → slice_get xs i ≡ Some x
get_front [] ys i x inside h = absurd (omega arith)
get_front (y ∷ xs) ys zero x inside h = h
get_front (y ∷ xs) ys (suc i) x inside h = get_front xs ys i x (omega arith) h

pub all_at : (n : ℕ) (vs : List ValueOrError) (r : ℕ) (x : ValueOrError) → All (IsResultBounded n) vs → slice_get vs r ≡ Some x → IsResultBounded n x
all_at n [] r x all e = absurd (cc)
all_at n (v ∷ vs) zero x all e = let same : v ≡ x = cc in subst (IsResultBounded n) same (All-head (IsResultBounded n) v vs all)
all_at n (v ∷ vs) (suc r) x all e = all_at n vs r x (All-tail (IsResultBounded n) v vs all) e

-- the first values of every store
module _ (values : Contents) (store : IsStore values) where
  pub names_error : Names values.values 0 error
  names_error = ap (λ (vs : List ValueOrError). slice_get vs 0) store.values_are

  pub names_null : Names values.values 1 (value null)
  names_null = ap (λ (vs : List ValueOrError). slice_get vs 1) store.values_are

  pub names_no : Names values.values 2 (value (boolean false))
  names_no = ap (λ (vs : List ValueOrError). slice_get vs 2) store.values_are

  pub names_yes : Names values.values 3 (value (boolean true))
  names_yes = ap (λ (vs : List ValueOrError). slice_get vs 3) store.values_are

-- what tests of a reference for the truths and the error show
pub record Told (t : Truth) (fails : Bool) (r : ℕ) : Type 0 where
  pub no : compares W64 Eq r 2 ≡ is_no t
  pub not_no : compares W64 Ne r 2 ≡ not (is_no t)
  pub yes : compares W64 Eq r 3 ≡ is_yes t
  pub not_yes : compares W64 Ne r 3 ≡ not (is_yes t)
  pub error : compares W64 Eq r 0 ≡ fails
  pub not_error : compares W64 Ne r 0 ≡ not fails

told_by : (t : Truth) (fails : Bool) (r : ℕ) → nat_eq r 2 ≡ is_no t → nat_eq r 3 ≡ is_yes t → nat_eq r 0 ≡ fails → Told t fails r
unfolding holds_of
told_by t fails r at_2 at_3 at_0 = record { no = at_2; not_no = ap not at_2; yes = at_3; not_yes = ap not at_3; error = at_0; not_error = ap not at_0 }

-- the reference of another value differs from theirs
told_other : (values : Contents) (r : ℕ) (v : Value) → IsStore values → Names values.values r (value v) → truth (value v) ≡ Other → Told Other false r
told_other values r v store named other =
    let at_0 = names_error values store in
    let at_2 = names_no values store in
    let at_3 = names_yes values store in
    told_by Other false r (ne_eqb r 2 (λ e. cc)) (ne_eqb r 3 (λ e. cc)) (ne_eqb r 0 (λ e. cc))

pub told : (values : Contents) (r : ℕ) (x : ValueOrError) → IsStore values → AreCanonical values.values → Names values.values r x → Told (truth x) (is_error x) r
told values r error store canonical named = rw (canonical r error named) (told_by Other true 0 refl refl refl)
told values r (value (boolean false)) store canonical named = rw (canonical r _ named) (told_by No false 2 refl refl refl)
told values r (value (boolean true)) store canonical named = rw (canonical r _ named) (told_by Yes false 3 refl refl refl)
told values r _ store canonical named = told_other values r _ store named refl
