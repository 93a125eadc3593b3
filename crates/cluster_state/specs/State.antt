-- The state of a cluster.
use Rattle.std.specs.Prelude.{◌≡◌, ◌==◌, List, Result, Ok, Err, length, map, if◌then◌else◌}
use Rattle.serde_json.specs.Data as json
use Rattle.cluster_state.specs.Bindings.{Binding, binding_view, bindings_in}
use Rattle.cluster_state.specs.Items.{Collection, Item, item_view, items_of}
use Rattle.cluster_state.specs.Objects.{Objects, no_objects, objects_view, with_items}
use Rattle.cluster_state.specs.Policies.{BoundPolicy, policies_in, policy_view}
use Rattle.cluster_state.specs.Refusals.{Refusal, IsDueRefusal, no_namespace}
use Rattle.cluster_state.specs.declared.objects.Objects.{Objects as CodeObjects}
use Rattle.cluster_state.specs.declared.state.State.{State as CodeState}
use Rattle.cluster_state.specs.declared.state_error.StateError.{StateError}
pub use Rattle.cluster_state.specs.Collections.{bindings, definitions, namespaces, of_cluster, policies}

-- the contents of a cluster: its items as listed, its objects, all bindings, and the policies that have one, ordered
-- by name
pub record ClusterState : Type 0 where
  pub items : List Item
  pub objects : Objects
  pub bindings : List Binding
  pub policies : List BoundPolicy

-- the objects, if one of them is a namespace
abbrev pub if_has_namespace : Result Objects Refusal → Result Objects Refusal
if_has_namespace (Ok objects) = if length (objects namespaces) == 0 then Err no_namespace else Ok objects
if_has_namespace (Err e) = Err e

-- the objects in items
abbrev pub objects_of : List Item → Result Objects Refusal
objects_of items = if_has_namespace (with_items no_objects items)

-- a state with these objects and bindings
abbrev pub state_with : List Item → Objects → List Binding → Result (List BoundPolicy) Refusal → Result ClusterState Refusal
state_with items objects bs (Ok ps) = Ok (record { items = items; objects = objects; bindings = bs; policies = ps })
state_with items objects bs (Err e) = Err e

-- the state after its bindings were read: its policies follow
abbrev pub policies_then : List Item → Objects → Result (List Binding) Refusal → Result ClusterState Refusal
policies_then items objects (Ok bs) = state_with items objects bs (policies_in bs (objects policies))
policies_then items objects (Err e) = Err e

-- the state after its objects were read: its bindings follow
abbrev pub bindings_then : List Item → Result Objects Refusal → Result ClusterState Refusal
bindings_then items (Ok objects) = policies_then items objects (bindings_in (objects bindings))
bindings_then items (Err e) = Err e

-- the state after its items were read
abbrev pub items_then : Result (List Item) Refusal → Result ClusterState Refusal
items_then (Ok items) = bindings_then items (objects_of items)
items_then (Err e) = Err e

-- the state in lists
abbrev pub state_of : List json.Data → Result ClusterState Refusal
state_of lists = items_then (items_of lists)

-- a state of the code
abbrev pub state_view : CodeState → ClusterState
state_view s = record {
  items = map item_view s.items.all.items;
  objects = objects_view s.objects.all;
  bindings = map binding_view s.bindings;
  policies = map policy_view s.policies.items;
}

-- these are the objects of the code
abbrev pub AreObjects : Objects → Objects → Type 0
AreObjects objects code = (c : Collection) → code c ≡ objects c

-- the objects are returned, or the refusal that is due; or an allocation failed
abbrev pub ObjectsRead : Result Objects Refusal → Result CodeObjects StateError → Type 0
ObjectsRead due (Ok code) = (o : Objects) × (due ≡ Ok o) × AreObjects o (objects_view code)
ObjectsRead due (Err e) = IsDueRefusal due e

-- this is the state of the code
pub record IsClusterState (s code : ClusterState) : Type 0 where
  pub items : code.items ≡ s.items
  pub objects : AreObjects s.objects code.objects
  pub bindings : code.bindings ≡ s.bindings
  pub policies : code.policies ≡ s.policies

-- the state is returned, or the refusal that is due; or an allocation failed
abbrev pub StateReads : Result ClusterState Refusal → Result CodeState StateError → Type 0
StateReads due (Ok code) = (s : ClusterState) × (due ≡ Ok s) × IsClusterState s (state_view code)
StateReads due (Err e) = IsDueRefusal due e
