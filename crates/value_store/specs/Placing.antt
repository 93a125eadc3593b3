-- The values of a store as a list; a reference is an index into it.
use Rattle.std.specs.Prelude.{◌≡◌, ◌≤◌, ℕ, Bool, true, false, List, [], ◌∷◌, ◌++◌, length, Some, slice_get, ⊤}
use Rattle.value_store.specs.Value.{Value, null, boolean, ValueOrError, error, value}

-- the limit of a store's charge, for its roots and all calls together: 2 ^ 24
abbrev pub charge_limit : ℕ
charge_limit = 16777216

-- the values at the references 0 to 3
abbrev pub first_values : List ValueOrError
first_values = error ∷ value null ∷ value (boolean false) ∷ value (boolean true) ∷ []

-- the reference of a placed value: null, false and true have fixed ones, any other value is appended
abbrev pub place : List ValueOrError → Value → ℕ
place vs null = 1
place vs (boolean false) = 2
place vs (boolean true) = 3
place vs _ = length vs

-- whether placing a value appends it, and so allocates: all values but null, false and true
abbrev pub is_appended : Value → Bool
is_appended null = false
is_appended (boolean b) = false
is_appended _ = true

-- the values after one is placed: null, false and true are already there, any other is appended
abbrev pub placed : List ValueOrError → Value → List ValueOrError
placed vs null = vs
placed vs (boolean b) = vs
placed vs v = vs ++ value v ∷ []

-- the error, false and true are at their fixed references only
abbrev pub IsCanonicalAt : ValueOrError → ℕ → Type 0
IsCanonicalAt error h = h ≡ 0
IsCanonicalAt (value (boolean false)) h = h ≡ 2
IsCanonicalAt (value (boolean true)) h = h ≡ 3
IsCanonicalAt _ h = ⊤

-- every value of a list is at a reference that it may have
abbrev pub AreCanonical : List ValueOrError → Type 0
AreCanonical vs = (h : ℕ) (x : ValueOrError) → slice_get vs h ≡ Some x → IsCanonicalAt x h

-- the values of a store and its charge so far
pub record Contents : Type 0 where
  pub values : List ValueOrError
  pub charge : ℕ

-- the error, null, false and true come first, and the charge is within its limit
pub record IsStore (contents : Contents) : Type 0 where
  pub more : List ValueOrError
  pub values_are : contents.values ≡ first_values ++ more
  pub charged : contents.charge ≤ charge_limit
