-- The laws proved of values.
use Rattle.std.specs.Prelude.{Decides, ◌≡◌, ◌<◌, not, is_some, ℕ, List, Option, option_and_then, slice_get, None, IsSome, IfSome, Ok, Err}
use Rattle.std.specs.List.{AllByRecursion}
use Rattle.serde_json.specs.Data as json
use Rattle.value_store.specs.Value.{Value, Entries, ValueOrError, keys_of, values_of}
use Rattle.value_store.specs.Equality.{equal}
use Rattle.value_store.specs.Lookup.{find, has_key, place_of_key, inserted}
use Rattle.value_store.specs.Keys.{Ascend, IsOrdered, IsResultOrdered, AreOrdered, IsDocumentOrdered}
use Rattle.value_store.specs.Calls.{part_at, key_at, joined, pushed, put_in}
use Rattle.value_store.specs.Placing.{Contents, IsStore, AreCanonical, charge_limit, placed}
use Rattle.value_store.specs.Roots.{value_of, has_other, sizes, start_contents, within_limit}
use Rattle.value_store.specs.declared.table_error.TableError.TheVariants.{RootsTooLarge}

-- deep equality decides equality
abbrev pub EqualDecides : Type 0
EqualDecides = (a b : Value) → Decides (equal a b) (a ≡ b)

-- the value at a key is the value at the key's position
abbrev pub FindIsPlace : Type 0
FindIsPlace = (key : List ℕ) (es : Entries) → find key es ≡ option_and_then (slice_get (values_of es)) (place_of_key key es)

-- a document has a value unless it contains a number that is not a signed 64-bit integer
abbrev pub OtherNumbersRefused : Type 0
OtherNumbersRefused = (d : json.Data) → has_other d ≡ not (is_some (value_of d))

-- a key that is not in a map can be inserted
abbrev pub AbsentKeyFits : Type 0
AbsentKeyFits = (key : List ℕ) (x : Value) (es : Entries) → place_of_key key es ≡ None → IsSome (inserted key x es)

-- a store at the start begins with the error, null, false and true, and its charge is within the limit
abbrev pub StartIsStore : Type 0
StartIsStore = (roots : List json.Data) (contents : Contents) → start_contents roots ≡ Ok contents → IsStore contents

-- at the start the error is at 0 only, false at 2 only and true at 3 only
abbrev pub StartIsCanonical : Type 0
StartIsCanonical = (roots : List json.Data) (contents : Contents) → start_contents roots ≡ Ok contents → AreCanonical contents.values

-- a key is inserted at its position in byte order, and never twice
abbrev pub InsertedInOrder : Type 0
InsertedInOrder = (key : List ℕ) (x : Value) (es : Entries) → Ascend (keys_of es)
    → IfSome (inserted key x es) (λ more. Ascend (keys_of more))

-- a key can be inserted into a map exactly if the map does not have it
abbrev pub InsertedOnce : Type 0
InsertedOnce = (key : List ℕ) (x : Value) (es : Entries) → Ascend (keys_of es) → is_some (inserted key x es) ≡ not (has_key key es)

-- the value at a reference, if there is one, is ordered
abbrev pub IsOrderedAt : Option ValueOrError → Type 0
IsOrderedAt o = IfSome o IsResultOrdered

-- calls of a store on ordered values give ordered results, and the store's values stay ordered
pub record KeepsOrder : Type 0 where
  pub part : (h : Option ValueOrError) (i : ℕ) → IsOrderedAt h → IfSome (part_at h i) IsOrdered
  pub key : (h : Option ValueOrError) (i : ℕ) → IfSome (key_at h i) IsOrdered
  pub join : (a b : Option ValueOrError) → IsOrderedAt a → IsOrderedAt b → IfSome (joined a b) IsOrdered
  pub push : (l x : Option ValueOrError) → IsOrderedAt l → IsOrderedAt x → IfSome (pushed l x) IsOrdered
  pub put : (m k x : Option ValueOrError) → IsOrderedAt m → IsOrderedAt x → IfSome (put_in m k x) IsOrdered
  pub place : (vs : List ValueOrError) (v : Value) → AreOrdered vs → IsOrdered v → AreOrdered (placed vs v)

-- the values of ordered documents are ordered
abbrev pub StartIsOrdered : Type 0
StartIsOrdered = (roots : List json.Data) (contents : Contents) → AllByRecursion IsDocumentOrdered roots
    → start_contents roots ≡ Ok contents → AreOrdered contents.values

-- roots whose sizes exceed the limit are refused as too large, not as out of memory
abbrev pub LargeRootsRefused : Type 0
LargeRootsRefused = (roots : List Value) → charge_limit < sizes roots → within_limit roots ≡ Err RootsTooLarge
