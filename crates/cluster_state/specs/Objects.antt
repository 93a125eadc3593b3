-- The objects of a cluster, by kind, namespace and name.
use Rattle.std.specs.Prelude.{ℕ, ◌&&◌, Bool, List, [], ◌∷◌, map, Option, Result, Ok, Err, bytes_eq, is_some, if◌then◌else◌}
use Rattle.std.specs.BTreeMap.{BTreeMap, get_by, insert_entry}
use Rattle.std.specs.Borrow.{Bor}
use Rattle.std.specs.Cmp.Lexicographic.{slice_cmp}
use Rattle.std.specs.Map.{lookup}
use Rattle.std.specs.Option.{option_map_or}
use Rattle.std.specs.Ordering.{nat_cmp, ordering_then}
use Rattle.std.specs.declared.cmp.Ordering.{Ordering}
use Rattle.serde_json.specs.Data as json
use Rattle.serde_json.specs.View.{view}
use Rattle.cluster_state.specs.Items.{Collection, Item}
use Rattle.cluster_state.specs.Refusals.{Refusal, duplicate_item}
use Rattle.cluster_state.specs.declared.document.Document.{Document}
use Rattle.cluster_state.specs.declared.objects.Objects.{Objects as CodeObjects}

-- names with their objects, ordered by name (bytes in UTF-8)
abbrev pub Named : Type 0
Named = List (List ℕ × json.Data)

-- the objects of each collection
abbrev pub Objects : Type 0
Objects = Collection → Named

abbrev pub no_objects : Objects
no_objects c = []

-- the collections have the same kind and namespace
abbrev pub is_collection : Collection → Collection → Bool
is_collection c d = bytes_eq c.api_version d.api_version && bytes_eq c.kind d.kind && bytes_eq c.namespace d.namespace

-- the object with this name
abbrev pub object_named : List ℕ → Named → Option json.Data
object_named name objects = lookup (bytes_eq name) objects

-- the objects of the item's collection, with the item added in its place
abbrev pub with_name : Objects → Item → Named
with_name objects i = insert_entry (slice_cmp nat_cmp) (objects i.collection) i.name i.document

-- the objects, with an item added
abbrev pub with_item : Objects → Item → Objects
with_item objects i c = if is_collection i.collection c then with_name objects i else objects c

-- there is an object with the item's collection and name
abbrev pub is_taken : Objects → Item → Bool
is_taken objects i = is_some (object_named i.name (objects i.collection))

-- the objects, with all items added; no two items have the same collection and name
abbrev pub with_items : Objects → List Item → Result Objects Refusal
with_items objects [] = Ok objects
with_items objects (i ∷ is) = if is_taken objects i then Err (duplicate_item i.name) else with_items (with_item objects i) is

-- ---- values of the code

-- names of the code, with their documents
abbrev pub Entries : Type 0
Entries = List (Bor (List ℕ) × Document)

abbrev pub named_view : Entries → Named
named_view es = map (λ e. (e.0.now, view e.1.value.now)) es

-- the entries of a map, if there is one
abbrev pub entries_of : Option (Bor (BTreeMap (Bor (List ℕ)) Document)) → Entries
entries_of m = option_map_or (λ o. o.now.entries) m []

-- how a collection compares with one of the code, of which the namespace comes first
abbrev pub collection_cmp : Collection → Bor (List ℕ) × Bor (List ℕ) × Bor (List ℕ) → Ordering
collection_cmp c k =
    ordering_then (ordering_then (slice_cmp nat_cmp c.namespace k.0.now) (slice_cmp nat_cmp c.kind k.1.now))
    (slice_cmp nat_cmp c.api_version k.2.now)

-- the collections of the code
abbrev pub Collections : Type 0
Collections = BTreeMap (Bor (List ℕ) × Bor (List ℕ) × Bor (List ℕ)) (BTreeMap (Bor (List ℕ)) Document)

-- the entries of a collection
abbrev pub entries_in : Collections → Collection → Entries
entries_in m c = option_map_or (λ o. o.entries) (get_by (collection_cmp c) m) []

-- the objects of a collection in the map of the code
abbrev pub named_in : Collections → Objects
named_in m c = named_view (entries_in m c)

-- the entries of a collection in objects of the code
abbrev pub entries_at : CodeObjects → Collection → Entries
entries_at o = entries_in o.collections

-- objects of the code
abbrev pub objects_view : CodeObjects → Objects
objects_view o = named_in o.collections

-- a collection of the code
abbrev pub collection_view : Bor (List ℕ) × Bor (List ℕ) × Bor (List ℕ) → Collection
collection_view k = record { api_version = k.2.now; kind = k.1.now; namespace = k.0.now }
