-- The results of reading tokens.
use Rattle.std.specs.Prelude.{◌≡◌, ◌<◌, ℕ, ◌+◌, List, [], ◌∷◌, ◌++◌, length, false, Option, Some, None, option_map, option_and_then, if◌then◌else◌, ⊤}
use Rattle.std.specs.Borrow.{Bor}
use Rattle.json.specs.Token.{Token}
use Rattle.serde_json.specs.Data as json
use Rattle.value_store.specs.Value as kind
use Rattle.value_store.specs.Value.{Value}
use Rattle.value_store.specs.Size.{size_of, items_size}
use Rattle.value_store.specs.Keys.{IsOrdered, AreItemsOrdered}
use Rattle.value_store.specs.Plain.{saturated}
use Rattle.value_store.specs.Roots.{value_of}
use Rattle.value_table.specs.Meaning.{value_in, items_at}
use Rattle.value_table.specs.Heaps.{AreBelow}
use Rattle.value_table.specs.Growing.{HasGrown}
use Rattle.value_table.specs.Heap.{heap_values, IsHeap}
use Rattle.value_table.specs.declared.heap.Heap.{Heap}
use Rattle.review_tables.specs.declared.placed.Placed.{Placed}
use Rattle.review_tables.specs.declared.pending_list.PendingList.{PendingList}

-- a value among these, with its size
pub record IsPlacedValue (vs : List Value) (p : Placed) : Type 0 where
  pub inside : p.place < length vs
  pub size : p.size ≡ saturated (size_of (value_in vs p.place))
  pub ordered : IsOrdered (value_in vs p.place)

abbrev pub IsSoundPlace : List Value → Option Placed → Type 0
IsSoundPlace vs None = ⊤
IsSoundPlace vs (Some p) = IsPlacedValue vs p

-- the value that was added, if there is one
abbrev pub placed_value : List Value → Option Placed → Option Value
placed_value vs p = option_map (λ q. value_in vs q.place) p

-- the added value is the one that is due
pub record PlacesValue (vs : List Value) (p : Option Placed) (due : Option Value) : Type 0 where
  pub sound : IsSoundPlace vs p
  pub is : placed_value vs p ≡ due

-- values were added; the one that is due, if there is one, is among them
pub record AddsPlaced (old new : Heap) (p : Option Placed) (due : Option Value) : Type 0 where
  pub heap : IsHeap new
  pub grown : HasGrown (heap_values old) (heap_values new)
  pub value : PlacesValue (heap_values new) p due

-- a document was read, the remaining tokens are `rest`, and its value was added
pub record ReadsValue (old new : Heap) (p : Option Placed) (read : Option (json.Data × List Token)) (rest : List Token) : Type 0 where
  pub document : json.Data
  pub is : read ≡ Some (document, rest)
  pub puts : AddsPlaced old new p (value_of document)

-- ---- lists

abbrev pub AddsItem : PendingList → Option Placed → PendingList → Type 0
AddsItem old None new = (new.places.items ≡ old.places.items) × (new.size ≡ old.size) × (new.whole ≡ false)
AddsItem old (Some p) new =
    (new.places.items ≡ old.places.items ++ p.place ∷ []) × (new.size ≡ saturated (old.size + p.size)) × (new.whole ≡ old.whole)

-- the items read so far of a list, and its size
pub record IsPendingList (vs : List Value) (pending : PendingList) : Type 0 where
  pub below : AreBelow (length vs) pending.places.items
  pub ordered : AreItemsOrdered (items_at vs pending.places.items)
  pub size : pending.size ≡ saturated (1 + items_size (items_at vs pending.places.items))

abbrev pub pending_value : List Value → PendingList → Option Value
pending_value vs pending = if pending.whole then Some (kind.list (items_at vs pending.places.items)) else None

-- ---- maps

-- a member that was read, with its key
abbrev pub PlacedEntry : Type 0
PlacedEntry = Bor (List ℕ) × Option Placed

abbrev pub entry_keys : List PlacedEntry → List (List ℕ)
entry_keys [] = []
entry_keys (e ∷ es) = e.0.now ∷ entry_keys es

abbrev pub AreSoundEntries : List Value → List PlacedEntry → Type 0
AreSoundEntries vs [] = ⊤
AreSoundEntries vs (e ∷ es) = IsSoundPlace vs e.1 × AreSoundEntries vs es

-- the entries of the members, if each has a value
abbrev pub placed_entries : List Value → List PlacedEntry → Option kind.Entries
placed_entries vs [] = Some kind.no_entries
placed_entries vs (e ∷ es) = option_and_then (λ v. option_map (kind.entry e.0.now v) (placed_entries vs es)) (placed_value vs e.1)

-- these members were read
abbrev pub AreMembers : List Value → List PlacedEntry → json.Members → Type 0
AreMembers vs [] json.no_members = ⊤
AreMembers vs [] (json.member k d ms) = ⊥
AreMembers vs (e ∷ es) json.no_members = ⊥
AreMembers vs (e ∷ es) (json.member k d ms) = (e.0.now ≡ k) × PlacesValue vs e.1 (value_of d) × AreMembers vs es ms

-- ---- texts

-- a text was read, and the value of its document was added
pub record ReadsDocument (old new : Heap) (p : Option Placed) (read : Option json.Data) : Type 0 where
  pub document : json.Data
  pub is : read ≡ Some document
  pub puts : AddsPlaced old new p (value_of document)

-- ---- values that are not kept

-- something was read, and the remaining tokens are `rest`
abbrev pub LeavesTokens : {A : Type 0} → Option (A × List Token) → List Token → Type 0
LeavesTokens {A} read rest = (a : A) × (read ≡ Some (a, rest))

-- the members of an object were read, and their values were added
pub record ReadsEntries (old new : Heap) (entries : List PlacedEntry) (read : Option (json.Members × List Token))
    (rest : List Token) : Type 0 where
  pub members : json.Members
  pub is : read ≡ Some (members, rest)
  pub heap : IsHeap new
  pub grown : HasGrown (heap_values old) (heap_values new)
  pub are : AreMembers (heap_values new) entries members

-- the members that were read are those of some object
abbrev pub AreSomeMembers : List Value → List PlacedEntry → Type 0
AreSomeMembers vs es = (ms : json.Members) × AreMembers vs es ms
