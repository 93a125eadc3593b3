-- Maps whose keys are in byte order without duplicates. All maps of a store are ordered so.
use Rattle.std.specs.Prelude.{ℕ, List, [], ◌∷◌, ⊤}
use Rattle.std.specs.Ordering.{nat_cmp}
use Rattle.std.specs.Cmp.Lexicographic.{slice_cmp}
use Rattle.std.specs.List.{AllByRecursion}
use Rattle.std.specs.List.Sorted.{IsStrictlySortedBy}
use Rattle.serde_json.specs.Data as json
use Rattle.value_store.specs.Value.{Value, null, boolean, int, text, list, map, Items, no_items, item, Entries, no_entries, entry}
use Rattle.value_store.specs.Value.{ValueOrError, error, value, keys_of}

-- each key is less than those after it, byte by byte
abbrev pub Ascend : List (List ℕ) → Type 0
Ascend keys = IsStrictlySortedBy (slice_cmp nat_cmp) keys

abbrev mutual
  -- the keys of the value's own entries ascend, and those of every map inside it
  pub IsOrdered : Value → Type 0
  IsOrdered null = ⊤
  IsOrdered (boolean b) = ⊤
  IsOrdered (int n) = ⊤
  IsOrdered (text s) = ⊤
  IsOrdered (list is) = AreItemsOrdered is
  IsOrdered (map es) = Ascend (keys_of es) × AreEntriesOrdered es

  -- every item is ordered
  pub AreItemsOrdered : Items → Type 0
  AreItemsOrdered no_items = ⊤
  AreItemsOrdered (item v more) = IsOrdered v × AreItemsOrdered more

  -- the value of every entry is ordered
  pub AreEntriesOrdered : Entries → Type 0
  AreEntriesOrdered no_entries = ⊤
  AreEntriesOrdered (entry k v more) = IsOrdered v × AreEntriesOrdered more

-- the error is ordered, since it holds no map
abbrev pub IsResultOrdered : ValueOrError → Type 0
IsResultOrdered error = ⊤
IsResultOrdered (value v) = IsOrdered v

-- every value of a list is ordered
abbrev pub AreOrdered : List ValueOrError → Type 0
AreOrdered vs = AllByRecursion IsResultOrdered vs

-- the keys of an object's members (RFC 8259, section 4)
abbrev pub member_keys : json.Members → List (List ℕ)
member_keys json.no_members = []
member_keys (json.member k d more) = k ∷ member_keys more

abbrev mutual
  -- the keys of a JSON object's own members ascend, and those of every object inside a document
  pub IsDocumentOrdered : json.Data → Type 0
  IsDocumentOrdered json.null = ⊤
  IsDocumentOrdered (json.boolean b) = ⊤
  IsDocumentOrdered (json.number n) = ⊤
  IsDocumentOrdered (json.string s) = ⊤
  IsDocumentOrdered (json.array ds) = AreElementsOrdered ds
  IsDocumentOrdered (json.object ms) = Ascend (member_keys ms) × AreMembersOrdered ms

  -- every element of an array is ordered
  pub AreElementsOrdered : json.Items → Type 0
  AreElementsOrdered json.no_items = ⊤
  AreElementsOrdered (json.item d more) = IsDocumentOrdered d × AreElementsOrdered more

  -- the value of every member is ordered
  pub AreMembersOrdered : json.Members → Type 0
  AreMembersOrdered json.no_members = ⊤
  AreMembersOrdered (json.member k d more) = IsDocumentOrdered d × AreMembersOrdered more
