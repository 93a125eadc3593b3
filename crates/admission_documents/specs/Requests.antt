-- The request of an AdmissionReview (Kubernetes, AdmissionRequest of admission.k8s.io/v1), as far as matching reads
-- it. A request that cannot be understood is refused.
use Rattle.std.specs.Prelude.{ℕ, ◌&&◌, ◌==◌, Bool, true, false, List, Option, Some, None, option_map, codes, length, is_some, if◌then◌else◌}
use Rattle.std.specs.Str.{bytes_eq}
use Rattle.serde_json.specs.Data as json
use Rattle.serde_json.specs.View.{view}
use Rattle.label_selectors.specs.Selectors.{Labels}
use Rattle.admission_match.specs.Matching.{writes}
use Rattle.admission_match.specs.Requests.{Attributes, GroupVersionResource, attributes_view, resource_view}
use Rattle.admission_match.specs.declared.operation.Operation.{Operation}
use Rattle.admission_match.specs.declared.operation.Operation.TheVariants.{Create, Update, Delete, Connect}
use Rattle.json_fields.specs.Fields.{field, text_of, text_or_empty_of}
use Rattle.admission_documents.specs.Selectors.{labels_in, labels_view}
use Rattle.admission_documents.specs.declared.group_version_kind.GroupVersionKind.{GroupVersionKind as CodeKind}
use Rattle.admission_documents.specs.declared.request.Request.{Request as CodeRequest}
use Rattle.admission_documents.specs.declared.target.Target.{Target as CodeTarget}

-- a kind: its group (empty for the core group), its version and its name
pub record GroupVersionKind : Type 0 where
  pub group : List ℕ
  pub version : List ℕ
  pub kind : List ℕ

-- the target of a request
pub record Target : Type 0 where
  pub kind : GroupVersionKind
  pub resource : GroupVersionResource
  pub subresource : List ℕ

-- a request with its objects
pub record Request : Type 0 where
  pub kind : GroupVersionKind
  pub attributes : Attributes
  pub object : Option json.Data
  pub old_object : Option json.Data

-- ---- the target

-- a kind, if each of its parts has the right form
abbrev pub kind_from : Option (List ℕ) → Option (List ℕ) → Option (List ℕ) → Option GroupVersionKind
kind_from (Some group) (Some version) (Some kind) = Some (record { group = group; version = version; kind = kind })
kind_from _ _ _ = None

-- its optional `group`, and its `version` and `kind`
unfoldable pub kind_in : json.Data → Option GroupVersionKind
kind_in d = kind_from
    (text_or_empty_of (field (codes "group") d)) (text_of (field (codes "version") d)) (text_of (field (codes "kind") d))

-- a resource, if each of its parts has the right form
abbrev pub resource_from : Option (List ℕ) → Option (List ℕ) → Option (List ℕ) → Option GroupVersionResource
resource_from (Some group) (Some version) (Some resource) = Some (record { group = group; version = version; resource = resource })
resource_from _ _ _ = None

-- its optional `group`, and its `version` and `resource`
unfoldable pub resource_in : json.Data → Option GroupVersionResource
resource_in d = resource_from
    (text_or_empty_of (field (codes "group") d)) (text_of (field (codes "version") d)) (text_of (field (codes "resource") d))

-- a required kind
abbrev pub kind_of : Option json.Data → Option GroupVersionKind
kind_of (Some d) = kind_in d
kind_of None = None

-- a required resource
abbrev pub resource_of : Option json.Data → Option GroupVersionResource
resource_of (Some d) = resource_in d
resource_of None = None

-- the second kind is the first
abbrev pub is_kind : GroupVersionKind → Option GroupVersionKind → Bool
is_kind k (Some l) = bytes_eq l.group k.group && bytes_eq l.version k.version && bytes_eq l.kind k.kind
is_kind k None = false

-- the second resource is the first
abbrev pub is_resource : GroupVersionResource → Option GroupVersionResource → Bool
is_resource x (Some y) = bytes_eq y.group x.group && bytes_eq y.version x.version && bytes_eq y.resource x.resource
is_resource x None = false

-- the kind that the client asked for is this one, or is not given
unfoldable pub keeps_kind : GroupVersionKind → Option json.Data → Bool
keeps_kind k None = true
keeps_kind k (Some d) = is_kind k (kind_in d)

-- the resource that the client asked for is this one, or is not given
unfoldable pub keeps_resource : GroupVersionResource → Option json.Data → Bool
keeps_resource x None = true
keeps_resource x (Some d) = is_resource x (resource_in d)

-- the subresource that the client asked for is this one, or is not given
unfoldable pub keeps_subresource : List ℕ → Option json.Data → Bool
keeps_subresource s None = true
keeps_subresource s (Some (json.string t)) = bytes_eq t s
keeps_subresource s (Some _) = false

-- the request was not converted for a webhook
unfoldable pub is_as_sent : json.Data → Target → Bool
is_as_sent d t =
    keeps_kind t.kind (field (codes "requestKind") d) && keeps_resource t.resource (field (codes "requestResource") d)
    && keeps_subresource t.subresource (field (codes "requestSubResource") d)

-- the target of a request, if each part has the right form
abbrev pub target_from : Option GroupVersionKind → Option GroupVersionResource → Option (List ℕ) → Option Target
target_from (Some kind) (Some resource) (Some subresource) = Some (record { kind = kind; resource = resource; subresource = subresource })
target_from _ _ _ = None

-- its `kind`, `resource` and `subResource`
unfoldable pub target_parts : json.Data → Option Target
target_parts d = target_from
    (kind_of (field (codes "kind") d)) (resource_of (field (codes "resource") d)) (text_or_empty_of (field (codes "subResource") d))

-- the target, if the request was not converted
abbrev pub if_as_sent : json.Data → Option Target → Option Target
if_as_sent d (Some t) = if is_as_sent d t then Some t else None
if_as_sent d None = None

-- the target of a request
abbrev pub target_in : json.Data → Option Target
target_in d = if_as_sent d (target_parts d)

-- ---- the operation and the objects

-- the operation with this name
abbrev pub operation_named : List ℕ → Option Operation
operation_named t =
    if bytes_eq t (codes "CREATE") then Some Create
    else (if bytes_eq t (codes "UPDATE") then Some Update
    else (if bytes_eq t (codes "DELETE") then Some Delete
    else (if bytes_eq t (codes "CONNECT") then Some Connect else None)))

-- a required operation
unfoldable pub operation_of : Option json.Data → Option Operation
operation_of (Some (json.string s)) = operation_named s
operation_of _ = None

-- an optional object
abbrev pub object_of : Option json.Data → Option (Option json.Data)
object_of None = Some None
object_of (Some (json.object ms)) = Some (Some (json.object ms))
object_of (Some _) = None

-- the object; it is required if the operation writes it
abbrev pub if_written : Operation → Option (Option json.Data) → Option (Option json.Data)
if_written operation (Some (Some d)) = Some (Some d)
if_written operation (Some None) = if writes operation then None else Some None
if_written operation None = None

-- the object of a request with this operation
abbrev pub new_object_of : Option Operation → Option json.Data → Option (Option json.Data)
new_object_of (Some operation) o = if_written operation (object_of o)
new_object_of None o = None

-- the labels of an object, if it has metadata
abbrev pub labels_if_metadata : Option json.Data → Option Labels
labels_if_metadata (Some d) = if is_some (field (codes "metadata") d) then Some (labels_in d) else None
labels_if_metadata None = None

-- a request, if each of its parts has the right form: its target, name, namespace and operation, and its objects
abbrev pub request_from : Option Target → Option (List ℕ) → Option (List ℕ) → Option Operation → Option (Option json.Data)
    → Option (Option json.Data) → Option Request
request_from (Some t) (Some name) (Some namespace) (Some operation) (Some object) (Some old) = Some (record {
  kind = t.kind;
  attributes = record {
    resource = t.resource;
    subresource = t.subresource;
    name = name;
    namespace = namespace;
    operation = operation;
    object = labels_if_metadata object;
    old_object = labels_if_metadata old;
  };
  object = object;
  old_object = old;
})
request_from _ _ _ _ _ _ = None

-- the request of a review
unfoldable pub request_in : json.Data → Option Request
request_in d = request_from
    (target_in d)
    (text_or_empty_of (field (codes "name") d))
    (text_or_empty_of (field (codes "namespace") d))
    (operation_of (field (codes "operation") d))
    (new_object_of (operation_of (field (codes "operation") d)) (field (codes "object") d))
    (object_of (field (codes "oldObject") d))

-- the kind is the Namespace of the core group, version v1
abbrev pub is_core_namespace : GroupVersionKind → Bool
is_core_namespace k = length k.group == 0 && bytes_eq k.version (codes "v1") && bytes_eq k.kind (codes "Namespace")

-- ---- values of the code

abbrev pub kind_view : CodeKind → GroupVersionKind
kind_view k = record { group = k.group.now; version = k.version.now; kind = k.kind.now }

abbrev pub target_view : CodeTarget → Target
target_view t = record { kind = kind_view t.kind; resource = resource_view t.resource; subresource = t.subresource.now }

abbrev pub request_view : CodeRequest → Request
request_view r = record {
  kind = kind_view r.kind;
  attributes = attributes_view labels_view r.attributes;
  object = option_map (λ v. view v.now) r.object;
  old_object = option_map (λ v. view v.now) r.old_object;
}
