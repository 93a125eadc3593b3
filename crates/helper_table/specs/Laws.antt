-- Properties that every call keeps.
use Rattle.std.specs.Prelude.{◌≡◌, ◌+◌, ◌≤◌, ℕ, ℤ, Bool, true, false, List, length, Some, slice_get}
use Rattle.value_store.specs.Placing.{Contents, IsStore, AreCanonical, place, placed}
use Rattle.value_store.specs.Value.{Value, ValueOrError, value}
use Rattle.helper_table.specs.Calls.{outcome_of, row_of, call_end, helper_row}
use Rattle.helper_table.specs.Outcome.{Named, Gives, Leaves, is_named}
use Rattle.helper_table.specs.declared.helper.Helper.{Helper}
use Rattle.helper_table.specs.declared.helper.Helper.TheVariants as helper

-- the reference h refers to x
abbrev pub Names : List ValueOrError → ℕ → ValueOrError → Type 0
Names vs h x = slice_get vs h ≡ Some x

-- the values after others: old references keep their values, and at most one is new
pub record ExtendsValues (old new : List ValueOrError) : Type 0 where
  pub kept : (h : ℕ) (x : ValueOrError) → Names old h x → Names new h x
  pub most_one : length new ≤ length old + 1
  pub canonical : AreCanonical old → AreCanonical new

-- a value placed among the values of a store has a reference to it
abbrev pub PlacedIsNamed : Type 0
PlacedIsNamed = (old : Contents) (v : Value) → IsStore old → Names (placed old.values v) (place old.values v) (value v)

-- placing a value keeps the values of all references
abbrev pub PlacedExtends : Type 0
PlacedExtends = (vs : List ValueOrError) (v : Value) → ExtendsValues vs (placed vs v)

-- a row that places a value returns its reference
abbrev pub RowPlaces : Type 0
RowPlaces = (id : ℤ) (args : List ℕ) (vs : List ValueOrError) (constants : List ℕ) (v : Value) (added : ℕ)
    → outcome_of id args vs constants ≡ Named v added → helper_row id args vs constants ≡ Gives (place vs v) (placed vs v) (1 + added)

-- the contents after a call are a store again, with the old values and at least 1 more charged
pub record Follows (old new : Contents) : Type 0 where
  pub values : ExtendsValues old.values new.values
  pub paid : old.charge + 1 ≤ new.charge
  pub store : IsStore old → IsStore new

-- this holds for every call that is not stopped
abbrev pub CallsFollow : Type 0
CallsFollow = (id : ℤ) (args : List ℕ) (old new : Contents) (constants : List ℕ) (word : ℕ)
    → call_end id args old constants ≡ Leaves word new → Follows old new

-- the helpers that may place a value
abbrev pub may_place : Helper → Bool
may_place helper.IntNew = true
may_place helper.TextConst = true
may_place helper.Field = true
may_place helper.Index = true
may_place helper.Size = true
may_place helper.Join = true
may_place helper.ListNew = true
may_place helper.Push = true
may_place helper.MapNew = true
may_place helper.Put = true
may_place helper.Item = true
may_place helper.TextOfInt = true
may_place _ = false

-- the rows of other helpers place no value
abbrev pub OthersPlaceNothing : Type 0
OthersPlaceNothing = (h : Helper) (args : List ℕ) (vs : List ValueOrError) (constants : List ℕ) → may_place h ≡ false
    → is_named (row_of h args vs constants) ≡ false
