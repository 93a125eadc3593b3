-- Params of a policy and a binding, and the namespace of a request.
use Rattle.std.specs.Prelude.{◌≡◌, ◌==◌, ◌&&◌, ◌||◌, ℕ, Bool, false, not, List, [], ◌∷◌, map, Option, Some, None, option_map, Result, Ok, Err, bytes_eq, codes, length, if◌then◌else◌}
use Rattle.std.specs.List.{filter, list_any}
use Rattle.std.specs.Option.{option_to_list}
use Rattle.std.specs.Prelude.{Vec}
use Rattle.std.specs.declared.alloc.Global.{Global}
use Rattle.serde_json.specs.Data as json
use Rattle.serde_json.specs.View.{view}
use Rattle.label_selectors.specs.Selectors.{Labels, selects}
use Rattle.json_fields.specs.Fields.{field, field_of}
use Rattle.admission_documents.specs.Requests.{GroupVersionKind, is_core_namespace}
use Rattle.admission_documents.specs.Selectors.{labels_in}
use Rattle.cluster_state.specs.Bindings.{ParamChoice, ParamRef, by_labels, by_name}
use Rattle.cluster_state.specs.Items.{Collection, Item, group_in}
use Rattle.cluster_state.specs.Objects.{Named, Objects, object_named}
use Rattle.cluster_state.specs.Policies.{ParamKind, param_kind_view}
use Rattle.cluster_state.specs.State.{definitions, namespaces}
use Rattle.cluster_state.specs.declared.document.Document.{Document}
use Rattle.cluster_state.specs.declared.param_scope.ParamScope.{ParamScope}
use Rattle.cluster_state.specs.declared.param_scope.ParamScope.TheVariants.{Namespaced, Cluster}
use Rattle.cluster_state.specs.declared.param_error.ParamError.{ParamError}
use Rattle.cluster_state.specs.declared.param_error.ParamError.TheVariants.{ClusterScopedRequest, NeedlessNamespace, NotFound, Memory}
use Rattle.cluster_state.specs.declared.known_kind.KnownKind.{KnownKind as CodeKnown}
use Rattle.cluster_state.specs.declared.namespace_object.NamespaceObject.{NamespaceObject as CodeNamespace}
use Rattle.cluster_state.specs.declared.namespace_object.NamespaceObject.TheVariants as code
pub use Rattle.cluster_state.specs.Serving.{is_true, scope_named, serves, some_in, some_item, version_cut}
unfoldable pub use Rattle.cluster_state.specs.Serving.{is_served, scope_of, serves_in, version_in}

-- ---- kinds of params

-- an object of the kind
abbrev pub is_of_kind : ParamKind → Item → Bool
is_of_kind k i = bytes_eq i.collection.api_version k.api_version && bytes_eq i.collection.kind k.kind

-- the same, in a namespace
abbrev pub is_in_namespace : ParamKind → Item → Bool
is_in_namespace k i = is_of_kind k i && not (length i.collection.namespace == 0)

-- the scope that the objects of the kind show; none if there are no objects
abbrev pub scope_by_items : ParamKind → List Item → Option ParamScope
scope_by_items k is =
    if list_any (is_in_namespace k) is then Some Namespaced else (if list_any (is_of_kind k) is then Some Cluster else None)

-- the scope of a kind: by the first of these definitions that serves it, or else by the objects of the kind
abbrev pub scope_by : ParamKind → List Item → Named → Option ParamScope
scope_by k is [] = scope_by_items k is
scope_by k is (o ∷ os) =
    if serves k o.1 then scope_of (field_of (codes "scope") (field (codes "spec") o.1)) else scope_by k is os

-- an object of the same group and kind in another version
abbrev pub is_of_other_version : ParamKind → Item → Bool
is_of_other_version k i =
    bytes_eq (group_in i.collection.api_version) (group_in k.api_version) && bytes_eq i.collection.kind k.kind
    && not (bytes_eq i.collection.api_version k.api_version)

-- a kind whose params can be found
pub record KnownKind : Type 0 where
  pub kind : ParamKind
  pub scope : ParamScope

abbrev pub with_scope : ParamKind → Option ParamScope → Option KnownKind
with_scope k (Some scope) = Some (record { kind = k; scope = scope })
with_scope k None = None

-- the scope of a kind, unless it is the cluster and an object of the kind is in a namespace
abbrev pub if_placed : Bool → Option ParamScope → Option ParamScope
if_placed spaced None = None
if_placed spaced (Some Namespaced) = Some Namespaced
if_placed spaced (Some Cluster) = if spaced then None else Some Cluster

-- the kind with its scope, if that is known, no object has another version, and none is in a namespace that the kind has not
abbrev pub known_kind : ParamKind → List Item → Objects → Option KnownKind
known_kind k is objects =
    if list_any (is_of_other_version k) is then None
    else with_scope k (if_placed (list_any (is_in_namespace k) is) (scope_by k is (objects definitions)))

-- ---- params

-- the namespace that the binding names, or else the request's
abbrev pub namespace_or : List ℕ → List ℕ → List ℕ
namespace_or named own = if length named == 0 then own else named

-- the collection of the params
abbrev pub params_place : ParamScope → ParamKind → List ℕ → List ℕ → Collection
params_place Namespaced k named own = record { api_version = k.api_version; kind = k.kind; namespace = namespace_or named own }
params_place Cluster k named own = record { api_version = k.api_version; kind = k.kind; namespace = [] }

-- the objects that a choice selects, in the order of their names
abbrev pub chosen : ParamChoice → Named → List json.Data
chosen (by_name name) os = option_to_list (object_named name os)
chosen (by_labels s) os = map (λ o. o.1) (filter (λ o. selects s (labels_in o.1)) os)

-- neither the request nor the binding has a namespace, and the kind needs one
abbrev pub lacks_namespace : ParamScope → List ℕ → List ℕ → Bool
lacks_namespace Namespaced named own = length named == 0 && length own == 0
lacks_namespace Cluster named own = false

-- the binding has a namespace, and the kind needs none
abbrev pub has_needless_namespace : ParamScope → List ℕ → Bool
has_needless_namespace Namespaced named = false
has_needless_namespace Cluster named = not (length named == 0)

-- these params, unless there are none and their absence denies
abbrev pub if_found : Bool → List json.Data → Result (List json.Data) ParamError
if_found denies ds = if denies && length ds == 0 then Err NotFound else Ok ds

-- the params of a kind that a binding refers to, for a request in this namespace
abbrev pub params_of : Objects → KnownKind → ParamRef → List ℕ → Result (List json.Data) ParamError
params_of objects k r own =
    if lacks_namespace k.scope r.namespace own then Err ClusterScopedRequest
    else (if has_needless_namespace k.scope r.namespace then Err NeedlessNamespace
    else if_found r.denies_absence (chosen r.choice (objects (params_place k.scope k.kind r.namespace own))))

-- the params or the first error are returned; or an allocation failed
abbrev pub ParamsRead : Result (List json.Data) ParamError → Result (Vec Document Global) ParamError → Type 0
ParamsRead due (Ok v) = due ≡ Ok (map (λ d. view d.value.now) v.items)
ParamsRead due (Err ClusterScopedRequest) = due ≡ Err ClusterScopedRequest
ParamsRead due (Err NeedlessNamespace) = due ≡ Err NeedlessNamespace
ParamsRead due (Err NotFound) = due ≡ Err NotFound
ParamsRead due (Err Memory) = Unit {0}

-- the message of the API server for this error
abbrev pub param_error_text : ParamError → List ℕ
param_error_text ClusterScopedRequest = codes "cannot use namespaced paramRef in policy binding that matches cluster-scoped resources"
param_error_text NeedlessNamespace = codes "paramRef.namespace must not be provided for a cluster-scoped `paramKind`"
param_error_text NotFound = codes "no params found for policy binding with `Deny` parameterNotFoundAction"
param_error_text Memory = codes "out of memory"

-- ---- the namespace of a request

-- the namespace with this name
abbrev pub namespace_named : List ℕ → Objects → Option json.Data
namespace_named name objects = object_named name (objects namespaces)

-- the labels of each namespace
abbrev pub namespace_labels : Objects → List ℕ → Option Labels
namespace_labels objects name = option_map labels_in (namespace_named name objects)

-- the root `namespaceObject`: null, an object, or a namespace that does not exist
pub data NamespaceObject : Type 0 where
  no_object : NamespaceObject
  object : json.Data → NamespaceObject
  missing : NamespaceObject

abbrev pub object_or_missing : Option json.Data → NamespaceObject
object_or_missing (Some d) = object d
object_or_missing None = missing

-- null for a Namespace of the core group and for a request without a namespace, otherwise the request's namespace
abbrev pub namespace_object : Objects → GroupVersionKind → List ℕ → NamespaceObject
namespace_object objects k name =
    if is_core_namespace k || length name == 0 then no_object else object_or_missing (namespace_named name objects)

-- ---- values of the code

abbrev pub known_kind_view : CodeKnown → KnownKind
known_kind_view k = record { kind = param_kind_view k.kind; scope = k.scope }

abbrev pub namespace_object_view : CodeNamespace → NamespaceObject
namespace_object_view code.Null = no_object
namespace_object_view (code.Object d) = object (view d.value.now)
namespace_object_view code.NotFound = missing
