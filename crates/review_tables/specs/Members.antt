-- The members that are read of an object, by their keys.
use Rattle.std.specs.Prelude.{◌≡◌, ◌<◌, ℕ, zero, suc, Bool, true, false, List, [], ◌∷◌, length, Option, Some, None, if◌then◌else◌}
use Rattle.std.specs.declared.cmp.Ordering.{Ordering}
use Rattle.std.specs.List.{AllByRecursion}
use Rattle.std.specs.Ordering.{nat_cmp, is_eq}
use Rattle.std.specs.Cmp.Lexicographic.{slice_cmp}
use Rattle.std.specs.Borrow.{Bor}
use Rattle.std.specs.BTreeMap.{insert_entry}
use Rattle.review_tables.specs.Reading.{PlacedEntry}

-- what clauses see of the members that were read
pub record ReadMembers : Type 0 where
  pub entries : List PlacedEntry

-- the order of keys
abbrev pub str_cmp : Bor (List ℕ) → Bor (List ℕ) → Ordering
str_cmp x y = slice_cmp nat_cmp x.now y.now

-- the order of a key and another
abbrev pub key_at : List ℕ → Bor (List ℕ) → Ordering
key_at key k = slice_cmp nat_cmp key k.now

-- ---- the place of a key

-- no key is equal
abbrev pub NoneIs : (Bor (List ℕ) → Ordering) → List PlacedEntry → Type 0
NoneIs compare es = AllByRecursion (λ e. is_eq (compare e.0) ≡ false) es

-- the first key that is equal is at this place
abbrev pub IsFirstKey : (Bor (List ℕ) → Ordering) → List PlacedEntry → ℕ → Type 0
IsFirstKey compare [] i = ⊥
IsFirstKey compare (e ∷ es) zero = is_eq (compare e.0) ≡ true
IsFirstKey compare (e ∷ es) (suc i) = (is_eq (compare e.0) ≡ false) × IsFirstKey compare es i

pub record IsHere (compare : Bor (List ℕ) → Ordering) (es : List PlacedEntry) (i : ℕ) : Type 0 where
  pub inside : i < length es
  pub first : IsFirstKey compare es i

-- where the key is, if it is there
abbrev pub PlaceIs : (Bor (List ℕ) → Ordering) → List PlacedEntry → Option ℕ → Type 0
PlaceIs compare es (Some i) = IsHere compare es i
PlaceIs compare es None = NoneIs compare es

-- ---- members one after another

-- these entries, with the members put in one after another; a key that is there stays, and takes the new value
abbrev pub inserted : List PlacedEntry → List PlacedEntry → List PlacedEntry
inserted es [] = es
inserted es (m ∷ ms) = inserted (insert_entry str_cmp es m.0 m.1) ms

-- a member is dropped if it has the key of the one before it, which then takes its value
pub record TakesValue (x k : PlacedEntry) (same : Bool) (x' k' : PlacedEntry) : Type 0 where
  pub told : same ≡ is_eq (str_cmp x.0 k.0)
  pub later : x' ≡ x
  pub kept : k' ≡ (if same then (k.0, x.1) else k)
