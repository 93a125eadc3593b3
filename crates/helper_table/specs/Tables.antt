-- Values that a program can have: their references, counts and ints are words.
use Rattle.std.specs.Prelude.{◌≡◌, ℕ, ℤ, ◌+◌, ◌^◌, ◌<◌, ◌≤◌, All, FitsSigned, List, length}
use Rattle.std.specs.Int.{w64}
use Rattle.value_store.specs.Placing.{Contents, IsStore}
use Rattle.value_store.specs.Value.{Value, null, boolean, int, text, list, map, Items, no_items, item, Entries, no_entries, entry}
use Rattle.value_store.specs.Value.{ValueOrError, error, value, list_of, keys_of}
use Rattle.helper_table.specs.Calls.{call_end}
use Rattle.helper_table.specs.Outcome.{Leaves}

abbrev mutual
  -- no text, key, list or map in a value has more than n bytes, items or entries,
  -- and its ints are signed 64-bit integers
  pub IsBounded : ℕ → Value → Type 0
  IsBounded n null = Unit {0}
  IsBounded n (boolean b) = Unit {0}
  IsBounded n (int z) = FitsSigned w64 z
  IsBounded n (text s) = length s ≤ n
  IsBounded n (list is) = (length (list_of is) ≤ n) × AreItemsBounded n is
  IsBounded n (map es) = (length (keys_of es) ≤ n) × AreEntriesBounded n es

  -- each of the items is bounded by n
  pub AreItemsBounded : ℕ → Items → Type 0
  AreItemsBounded n no_items = Unit {0}
  AreItemsBounded n (item v is) = IsBounded n v × AreItemsBounded n is

  -- each key and value of the entries is bounded by n
  pub AreEntriesBounded : ℕ → Entries → Type 0
  AreEntriesBounded n no_entries = Unit {0}
  AreEntriesBounded n (entry k v es) = (length k ≤ n) × IsBounded n v × AreEntriesBounded n es

-- a value is bounded by n; the error has no parts
abbrev pub IsResultBounded : ℕ → ValueOrError → Type 0
IsResultBounded n error = Unit {0}
IsResultBounded n (value v) = IsBounded n v

-- a store with at most nine values more than its charge, each bounded by its charge
pub record IsTable (contents : Contents) : Type 0 where
  pub store : IsStore contents
  pub few : length contents.values ≤ 9 + contents.charge
  pub bounded : All (IsResultBounded contents.charge) contents.values

-- a call among the values of a table that is not stopped returns a word, and its store is a table again
abbrev pub TablesAreKept : Type 0
TablesAreKept = (id : ℤ) (args : List ℕ) (old new : Contents) (constants : List ℕ) (word : ℕ) → All (λ w. w < 2 ^ 64) args → IsTable old
    → call_end id args old constants ≡ Leaves word new → (word < 2 ^ 64) × IsTable new
