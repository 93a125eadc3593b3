-- Documents with the numbers of their items.
use Rattle.std.specs.Prelude.{◌≡◌, List, Some, option_map, slice_get}
use Rattle.std.specs.List.{All, filter}
use Rattle.std.specs.Map.{values_of}
use Rattle.serde_json.specs.View.{view}
use Rattle.label_selectors.specs.Selectors.{LabelSelector, selects}
use Rattle.admission_documents.specs.Selectors.{labels_in}
use Rattle.cluster_state.specs.Items.{Collection, Item}
use Rattle.cluster_state.specs.Objects.{Collections, Entries, entries_in}
use Rattle.cluster_state.specs.declared.document.Document.{Document}
use Rattle.cluster_state.specs.declared.namespace_object.NamespaceObject.{NamespaceObject}
use Rattle.cluster_state.specs.declared.namespace_object.NamespaceObject.TheVariants.{Null, Object, NotFound}

-- the item at the document's number has this document
abbrev pub IsNumbered : List Item → Document → Type 0
IsNumbered is d = option_map (λ i. i.document) (slice_get is d.number) ≡ Some (view d.value.now)

-- the same of the documents of all entries
abbrev pub AreNumbered : List Item → Entries → Type 0
AreNumbered is es = All (IsNumbered is) (values_of es)

-- and of all collections
abbrev pub HasNumbers : List Item → Collections → Type 0
HasNumbers is m = (c : Collection) → AreNumbered is (entries_in m c)

-- and of the namespace of a request
abbrev pub IsNumberedNamespace : List Item → NamespaceObject → Type 0
IsNumberedNamespace is (Object d) = IsNumbered is d
IsNumberedNamespace is Null = Unit {0}
IsNumberedNamespace is NotFound = Unit {0}

-- the documents that a selector selects by their labels
abbrev pub selected_of : LabelSelector → Entries → List Document
selected_of s es = filter (λ d. selects s (labels_in (view d.value.now))) (values_of es)
