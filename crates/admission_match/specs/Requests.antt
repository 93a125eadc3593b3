-- Requests (Kubernetes, AdmissionRequest of admission.k8s.io/v1), as far as matching reads them. Texts are bytes in
-- UTF-8.
use Rattle.std.specs.Prelude.{ℕ, Bool, ◌&&◌, ◌||◌, ◌==◌, List, Option, option_map, bytes_eq, codes, length}
use Rattle.label_selectors.specs.Selectors.{Labels}
use Rattle.admission_match.specs.declared.operation.Operation.{Operation}
use Rattle.admission_match.specs.declared.operation.Operation.TheVariants.{Create, Update, Delete, Connect}
use Rattle.admission_match.specs.declared.group_version_resource.GroupVersionResource.{GroupVersionResource as CodeResource}
use Rattle.admission_match.specs.declared.attributes.Attributes.{Attributes as CodeAttributes}

-- a resource: its group (empty for the core group), its version and its plural
pub record GroupVersionResource : Type 0 where
  pub group : List ℕ
  pub version : List ℕ
  pub resource : List ℕ

-- a request, with the labels of each of its objects that has metadata
pub record Attributes : Type 0 where
  pub resource : GroupVersionResource
  pub subresource : List ℕ
  pub name : List ℕ
  pub namespace : List ℕ
  pub operation : Operation
  pub object : Option Labels
  pub old_object : Option Labels

-- the name of an operation
abbrev pub operation_name : Operation → List ℕ
operation_name Create = codes "CREATE"
operation_name Update = codes "UPDATE"
operation_name Delete = codes "DELETE"
operation_name Connect = codes "CONNECT"

-- the exempt plurals of admissionregistration.k8s.io
unfoldable pub is_policy_resource : List ℕ → Bool
is_policy_resource x =
    bytes_eq x (codes "validatingadmissionpolicies") || bytes_eq x (codes "validatingadmissionpolicybindings")
    || bytes_eq x (codes "mutatingadmissionpolicies") || bytes_eq x (codes "mutatingadmissionpolicybindings")

-- the exempt plurals of authentication.k8s.io
unfoldable pub is_authentication_review : List ℕ → Bool
is_authentication_review x = bytes_eq x (codes "selfsubjectreviews") || bytes_eq x (codes "tokenreviews")

-- the exempt plurals of authorization.k8s.io
unfoldable pub is_access_review : List ℕ → Bool
is_access_review x =
    bytes_eq x (codes "localsubjectaccessreviews") || bytes_eq x (codes "selfsubjectaccessreviews")
    || bytes_eq x (codes "selfsubjectrulesreviews") || bytes_eq x (codes "subjectaccessreviews")

-- a resource about whose requests no policy is asked
unfoldable pub is_exempt : GroupVersionResource → Bool
is_exempt x =
    (bytes_eq x.group (codes "admissionregistration.k8s.io") && is_policy_resource x.resource)
    || (bytes_eq x.group (codes "authentication.k8s.io") && is_authentication_review x.resource)
    || (bytes_eq x.group (codes "authorization.k8s.io") && is_access_review x.resource)

-- the namespaces of the core group, version v1
abbrev pub is_core_namespaces : GroupVersionResource → Bool
is_core_namespaces x = length x.group == 0 && bytes_eq x.version (codes "v1") && bytes_eq x.resource (codes "namespaces")

-- namespaces, of any group
abbrev pub is_namespaces : GroupVersionResource → Bool
is_namespaces x = bytes_eq x.resource (codes "namespaces")

-- a resource of the code
abbrev pub resource_view : CodeResource → GroupVersionResource
resource_view x = record { group = x.group.now; version = x.version.now; resource = x.resource.now }

-- a request of the code
abbrev pub attributes_view : {L : Type 0} → (L → Labels) → CodeAttributes L → Attributes
attributes_view labels q = record {
  resource = resource_view q.resource;
  subresource = q.subresource.now;
  name = q.name.now;
  namespace = q.namespace.now;
  operation = q.operation;
  object = option_map labels q.object;
  old_object = option_map labels q.old_object;
}
