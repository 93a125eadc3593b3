-- The items of a cluster's lists (Kubernetes, List of v1), as `kubectl get -o json` prints them.
use Rattle.std.specs.Prelude.{ℕ, ◌+◌, ◌&&◌, ◌||◌, ◌==◌, Bool, true, not, List, [], ◌∷◌, ◌++◌, Option, Some, None, Result, Ok, Err, bytes_eq, codes, length, position, take, if◌then◌else◌}
use Rattle.serde_json.specs.Data as json
use Rattle.serde_json.specs.View.{view}
use Rattle.value_store.specs.Documents.{equals_string}
use Rattle.json_fields.specs.Fields.{field, field_of, text_of, text_or_empty_of}
pub use Rattle.json_fields.specs.Fields.{array_of, items_list}
use Rattle.admission_documents.specs.Selectors.{is_text_map, labels_field}
use Rattle.cluster_state.specs.Refusals.{Refusal, not_a_list, invalid_item}
use Rattle.cluster_state.specs.declared.item.Item.{Item as CodeItem}

-- the objects of one kind in one namespace, which is empty for cluster-scoped objects
pub record Collection : Type 0 where
  pub api_version : List ℕ
  pub kind : List ℕ
  pub namespace : List ℕ

-- an object in a list
pub record Item : Type 0 where
  pub collection : Collection
  pub name : List ℕ
  pub document : json.Data

-- ---- an item's form

-- the part before this place; empty without one
abbrev pub group_cut : Option ℕ → List ℕ → List ℕ
group_cut (Some at) t = take at t
group_cut None t = []

-- the API group of an `apiVersion`: the part before its first slash, empty for the core group
unfoldable pub group_in : List ℕ → List ℕ
group_in t = group_cut (position (λ c. c == 47) t) t

-- the kinds of policies and their bindings
unfoldable pub is_policy_kind : List ℕ → Bool
is_policy_kind kind = bytes_eq kind (codes "ValidatingAdmissionPolicy") || bytes_eq kind (codes "ValidatingAdmissionPolicyBinding")

-- a policy or a binding of another API version
unfoldable pub has_other_version : List ℕ → List ℕ → Bool
has_other_version version kind =
    bytes_eq (group_in version) (codes "admissionregistration.k8s.io") && is_policy_kind kind
    && not (bytes_eq version (codes "admissionregistration.k8s.io/v1"))

-- a kind of the cluster that a state reads: policies, their bindings, namespaces and definitions of kinds
unfoldable pub is_of_cluster : List ℕ → List ℕ → Bool
is_of_cluster version kind =
    (bytes_eq version (codes "admissionregistration.k8s.io/v1") && is_policy_kind kind)
    || ((bytes_eq version (codes "v1") && bytes_eq kind (codes "Namespace"))
    || (bytes_eq version (codes "apiextensions.k8s.io/v1") && bytes_eq kind (codes "CustomResourceDefinition")))

-- an object of such a kind is in a namespace, as none in a cluster is
abbrev pub is_misplaced : Collection → Bool
is_misplaced c = is_of_cluster c.api_version c.kind && not (length c.namespace == 0)

-- labels are absent, or a map of texts
abbrev pub are_labels : Option json.Data → Bool
are_labels None = true
are_labels (Some d) = is_text_map (Some d)

-- an item, if each of its parts has the right form
abbrev pub item_from : json.Data → Option (List ℕ) → Option (List ℕ) → Option (List ℕ) → Option (List ℕ) → Option Item
item_from d (Some version) (Some kind) (Some name) (Some namespace) = Some (record {
  collection = record { api_version = version; kind = kind; namespace = namespace };
  name = name;
  document = d;
})
item_from d _ _ _ _ = None

-- its `apiVersion` and `kind`, and `name` and `namespace` of its `metadata`
unfoldable pub item_parts : json.Data → Option Item
item_parts d = item_from d
    (text_of (field (codes "apiVersion") d)) (text_of (field (codes "kind") d))
    (text_of (field_of (codes "name") (field (codes "metadata") d)))
    (text_or_empty_of (field_of (codes "namespace") (field (codes "metadata") d)))

-- it has a name, is not of another API version, and is not misplaced
abbrev pub is_read : Item → Bool
is_read i =
    not (length i.name == 0) && not (has_other_version i.collection.api_version i.collection.kind) && not (is_misplaced i.collection)

-- the item, if it can be read
abbrev pub if_read : Option Item → Option Item
if_read (Some i) = if is_read i then Some i else None
if_read None = None

-- an item
abbrev pub item_in : json.Data → Option Item
item_in d = if are_labels (labels_field d) then if_read (item_parts d) else None

-- ---- lists

-- the document is a List
unfoldable pub is_list : json.Data → Bool
is_list d = equals_string (field (codes "apiVersion") d) (codes "v1") && equals_string (field (codes "kind") d) (codes "List")

-- the items of a List; its other fields may be anything
unfoldable pub list_in : json.Data → Option (List json.Data)
list_in d = if is_list d then array_of (field (codes "items") d) else None

-- these documents in front of the others, or the refusal of the list
abbrev pub before : ℕ → Option (List json.Data) → Result (List json.Data) Refusal → Result (List json.Data) Refusal
before place None rest = Err (not_a_list place)
before place (Some ds) (Ok es) = Ok (ds ++ es)
before place (Some ds) (Err e) = Err e

-- the documents in all lists, from the one at this place on
abbrev pub documents_in : ℕ → List json.Data → Result (List json.Data) Refusal
documents_in place [] = Ok []
documents_in place (l ∷ ls) = before place (list_in l) (documents_in (place + 1) ls)

-- this item in front of the others, or its refusal
abbrev pub item_before : ℕ → Option Item → Result (List Item) Refusal → Result (List Item) Refusal
item_before place None rest = Err (invalid_item place)
item_before place (Some i) (Ok is) = Ok (i ∷ is)
item_before place (Some i) (Err e) = Err e

-- the items in documents, from the one at this place on
abbrev pub items_in : ℕ → List json.Data → Result (List Item) Refusal
items_in place [] = Ok []
items_in place (d ∷ ds) = item_before place (item_in d) (items_in (place + 1) ds)

-- the items in the documents, or the refusal of the documents
abbrev pub items_then : Result (List json.Data) Refusal → Result (List Item) Refusal
items_then (Ok ds) = items_in 0 ds
items_then (Err e) = Err e

-- the items of all lists
abbrev pub items_of : List json.Data → Result (List Item) Refusal
items_of lists = items_then (documents_in 0 lists)

-- an item of the code
abbrev pub item_view : CodeItem → Item
item_view i = record {
  collection = record { api_version = i.api_version.now; kind = i.kind.now; namespace = i.namespace.now };
  name = i.name.now;
  document = view i.document.now;
}
