-- The namespace and params of a review.
use Rattle.std.specs.Prelude.{◌≡◌, ℕ, List, Option, Some, None, ⊤}
use Rattle.serde_json.specs.Data as json
use Rattle.value_store.specs.Documents.{document_given}
use Rattle.value_store.specs.Value.{Value}
use Rattle.value_store.specs.Roots.{value_of}
use Rattle.value_table.specs.Heap.{heap_values, IsHeap}
use Rattle.review_tables.specs.Reading.{IsSoundPlace, placed_value}
use Rattle.review_tables.specs.declared.other_roots.OtherRoots.{OtherRoots}
use Rattle.review_tables.specs.declared.other_roots.PlacedOthers.{PlacedOthers}

-- the texts of a namespace and params; each may be missing
pub record OtherDocuments : Type 0 where
  pub namespace : Option (List ℕ)
  pub params : Option (List ℕ)

-- the values of a namespace and params; a document with a number that is not a 64-bit signed integer has none
pub record OtherValues : Type 0 where
  pub namespace : Option Value
  pub params : Option Value

-- the values of these documents, if both are JSON
abbrev pub other_values : Option json.Data → Option json.Data → Option OtherValues
other_values (Some namespace) (Some params) = Some (record { namespace = value_of namespace; params = value_of params })
other_values (Some namespace) None = None
other_values None params = None

-- the values at these places, if both documents are JSON
abbrev pub values_of_others : List Value → Option OtherRoots → Option OtherValues
values_of_others vs (Some o) = Some (record { namespace = placed_value vs o.namespace; params = placed_value vs o.params })
values_of_others vs None = None

abbrev pub AreSoundOthers : List Value → Option OtherRoots → Type 0
AreSoundOthers vs (Some o) = IsSoundPlace vs o.namespace × IsSoundPlace vs o.params
AreSoundOthers vs None = ⊤

-- the values of some documents were added, or one of the documents is not JSON
pub record ArePlaced (o : PlacedOthers) : Type 0 where
  pub heap : IsHeap o.heap
  pub sound : AreSoundOthers (heap_values o.heap) o.places

-- the values of these documents were added
pub record ArePlacedOthers (o : PlacedOthers) (namespace params : Option json.Data) : Type 0 where
  pub placed : ArePlaced o
  pub values : values_of_others (heap_values o.heap) o.places ≡ other_values namespace params

-- the values of these texts, if they were added
abbrev pub AreOthersOf : Option PlacedOthers → OtherDocuments → Type 0
AreOthersOf (Some o) documents = ArePlacedOthers o (document_given documents.namespace) (document_given documents.params)
AreOthersOf None documents = ⊤
