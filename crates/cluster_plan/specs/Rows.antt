-- Lists written out, and the steps of their policy with requests, worked by hand.
use Rattle.std.specs.Prelude.{◌≡◌, ℕ, List, [], ◌∷◌, ◌++◌, map, Option, Some, None, Result, Ok, Err, codes, option_and_then}
use Rattle.serde_json.specs.Data as json
use Rattle.serde_json.specs.Read.{read}
use Rattle.admission_documents.specs.Documents.{field, field_of, text_of}
use Rattle.admission_documents.specs.Requests.{Request, request_in}
use Rattle.cluster_state.specs.Params.{known_kind}
use Rattle.cluster_state.specs.Policies.{BoundPolicy}
use Rattle.cluster_state.specs.Refusals.{Refusal}
use Rattle.cluster_state.specs.Rows.{commas, documents, listing}
use Rattle.cluster_state.specs.State.{ClusterState, state_of}
use Rattle.cluster_plan.specs.Steps as plan
use Rattle.cluster_plan.specs.Steps.{PlannedStep, PolicyBlock, denies, unknown_match, evaluates, ends, policy_refused, policy_steps}

-- what a row tells of a step: of an evaluation the names of the binding, of the params and of the namespace
pub data StepRow : Type 0 where
  error : Option (List ℕ) → List ℕ → StepRow
  unknown : StepRow
  blocked : StepRow
  evaluated : List ℕ → Option (List ℕ) → Option (List ℕ) → StepRow
  not_found : StepRow

abbrev pub name_of : json.Data → Option (List ℕ)
name_of d = text_of (field_of (codes "name") (field (codes "metadata") d))

abbrev pub row_of : PlannedStep → StepRow
row_of (denies b t) = error b t
row_of unknown_match = unknown
row_of (plan.is_blocked b) = blocked
row_of (evaluates b params namespace) = evaluated b.name (option_and_then name_of params) (option_and_then name_of namespace)
row_of ends = not_found

abbrev pub steps_with : ClusterState → BoundPolicy → Option PolicyBlock → Request → List (List StepRow)
steps_with s p block q =
    map (map row_of) (policy_steps s (record { policy = p; kind = option_and_then (λ k. known_kind k s.items s.objects) p.param_kind }) block q)

-- the steps of the first policy
abbrev pub first_steps : Option PolicyBlock → ClusterState → List BoundPolicy → Request → Option (List (List StepRow))
first_steps block s [] q = None
first_steps block s (p ∷ ps) q = Some (steps_with s p block q)

abbrev pub of_state : Option PolicyBlock → Request → Result ClusterState Refusal → Option (List (List StepRow))
of_state block q (Ok s) = first_steps block s s.policies q
of_state block q (Err e) = None

-- the steps of the policy in a list of these items with a request
abbrev pub rows_by : Option PolicyBlock → List (List ℕ) → List ℕ → Option (List (List StepRow))
rows_by block items request =
    option_and_then (λ q. option_and_then (λ ds. of_state block q (state_of ds)) (documents (listing (commas items) ∷ [])))
    (option_and_then request_in (read request))

abbrev pub rows_with : List (List ℕ) → List ℕ → Option (List (List StepRow))
rows_with items request = rows_by None items request

-- the steps of one binding, or of the policy alone
abbrev pub of_one : List StepRow → Option (List (List StepRow))
of_one rows = Some (rows ∷ [])

-- ---- items

abbrev pub prod : List ℕ
prod = codes "{\"apiVersion\":\"v1\",\"kind\":\"Namespace\",\"metadata\":{\"name\":\"prod\"}}"

-- a map of configuration of this name in prod
abbrev pub config : List ℕ → List ℕ
config name =
    codes "{\"apiVersion\":\"v1\",\"kind\":\"ConfigMap\",\"metadata\":{\"name\":\"" ++ (name ++ codes "\",\"namespace\":\"prod\"}}")

-- the policy p with these fields of its specification
abbrev pub policy : List ℕ → List ℕ
policy spec =
    codes "{\"apiVersion\":\"admissionregistration.k8s.io/v1\",\"kind\":\"ValidatingAdmissionPolicy\",\"metadata\":{\"name\":\"p\"},\"spec\":{" ++ (spec ++ codes "}}")

-- constraints that match each resource of the API, with these fields
abbrev pub constraints : List ℕ → List ℕ
constraints more =
    codes "\"matchConstraints\":{\"resourceRules\":[{\"operations\":[\"*\"],\"apiGroups\":[\"*\"],\"apiVersions\":[\"v1\"],\"resources\":[\"*\"]}]" ++ (more ++ codes "}")

abbrev pub matches_all : List ℕ
matches_all = constraints []

-- constraints of the namespaces with a label
abbrev pub matches_labels : List ℕ
matches_labels = constraints (codes ",\"namespaceSelector\":{\"matchLabels\":{\"env\":\"prod\"}}")

abbrev pub under_ignore : List ℕ → List ℕ
under_ignore spec = codes "\"failurePolicy\":\"Ignore\"," ++ spec

abbrev pub with_params : List ℕ → List ℕ
with_params spec = codes "\"paramKind\":{\"apiVersion\":\"v1\",\"kind\":\"ConfigMap\"}," ++ spec

-- the specification of a binding to the policy of this name, with these fields
abbrev pub bound_to : List ℕ → List ℕ → List ℕ
bound_to policy spec = codes "\"policyName\":\"" ++ (policy ++ (codes "\",\"validationActions\":[\"Warn\"]" ++ spec))

-- the binding of this name with this specification
abbrev pub binding_of : List ℕ → List ℕ → List ℕ
binding_of name spec =
    codes "{\"apiVersion\":\"admissionregistration.k8s.io/v1\",\"kind\":\"ValidatingAdmissionPolicyBinding\",\"metadata\":{\"name\":\"" ++ (name ++ (codes "\"},\"spec\":{" ++ (spec ++ codes "}}")))

-- the binding b of the policy p with these fields of its specification
abbrev pub binding : List ℕ → List ℕ
binding spec = binding_of (codes "b") (bound_to (codes "p") spec)

abbrev pub bare : List ℕ
bare = binding []

-- a reference to params
abbrev pub reference : List ℕ → List ℕ
reference fields = binding (codes ",\"paramRef\":{" ++ (fields ++ codes "}"))

abbrev pub to_limits : List ℕ
to_limits = reference (codes "\"name\":\"limits\",\"parameterNotFoundAction\":\"Deny\"")

abbrev pub to_each : List ℕ
to_each = reference (codes "\"selector\":{},\"parameterNotFoundAction\":\"Allow\"")

-- a reference to those of a label that none has
abbrev pub to_labelled : List ℕ
to_labelled = reference (codes "\"selector\":{\"matchLabels\":{\"a\":\"b\"}},\"parameterNotFoundAction\":\"Allow\"")

-- a binding of the namespaces with a label
abbrev pub bound_by_labels : List ℕ
bound_by_labels = binding (codes ",\"matchResources\":{\"namespaceSelector\":{\"matchLabels\":{\"env\":\"prod\"}}}")

-- a binding of resources of version v2
abbrev pub bound_to_other_version : List ℕ
bound_to_other_version =
    binding (codes ",\"matchResources\":{\"resourceRules\":[{\"operations\":[\"*\"],\"apiGroups\":[\"*\"],\"apiVersions\":[\"v2\"],\"resources\":[\"*\"]}]}")

-- a kind of params without namespaces, and a reference that names a namespace
abbrev pub with_namespaces : List ℕ → List ℕ
with_namespaces spec = codes "\"paramKind\":{\"apiVersion\":\"v1\",\"kind\":\"Namespace\"}," ++ spec

abbrev pub to_prod : List ℕ
to_prod = reference (codes "\"name\":\"prod\",\"namespace\":\"prod\",\"parameterNotFoundAction\":\"Deny\"")

-- ---- requests

-- the deletion of an object of this kind and resource, of version v1 of the core group, with these further fields
abbrev pub deletion : List ℕ → List ℕ → List ℕ → List ℕ
deletion kind resource more =
    codes "{\"operation\":\"DELETE\",\"kind\":{\"version\":\"v1\",\"kind\":\""
    ++ (kind ++ (codes "\"},\"resource\":{\"version\":\"v1\",\"resource\":\"" ++ (resource ++ (codes "\"}" ++ (more ++ codes "}")))))

abbrev pub pod_in : List ℕ → List ℕ
pod_in namespace = deletion (codes "Pod") (codes "pods") (codes ",\"namespace\":\"" ++ (namespace ++ codes "\""))

abbrev pub node : List ℕ
node = deletion (codes "Node") (codes "nodes") []

-- the deletion of the namespace prod, and of all namespaces
abbrev pub space : List ℕ
space = deletion (codes "Namespace") (codes "namespaces") (codes ",\"name\":\"prod\",\"namespace\":\"prod\"")

abbrev pub spaces : List ℕ
spaces = deletion (codes "Namespace") (codes "namespaces") []

-- a resource of version v2
abbrev pub of_other_version : List ℕ
of_other_version =
    codes "{\"operation\":\"DELETE\",\"kind\":{\"group\":\"x.io\",\"version\":\"v2\",\"kind\":\"Widget\"},\"resource\":{\"group\":\"x.io\",\"version\":\"v2\",\"resource\":\"widgets\"}}"

-- ---- rows

pub record StepRowsHold : Type 0 where
  pub one_evaluation : rows_with (policy matches_all ∷ bare ∷ prod ∷ []) (pod_in (codes "prod"))
      ≡ of_one (evaluated (codes "b") None (Some (codes "prod")) ∷ [])
  pub of_a_node : rows_with (policy matches_all ∷ bare ∷ prod ∷ []) node ≡ of_one (evaluated (codes "b") None None ∷ [])
  pub namespace_not_found : rows_with (policy (under_ignore matches_all) ∷ bare ∷ prod ∷ []) (pod_in (codes "gone")) ≡ of_one (not_found ∷ [])
  pub no_labels : rows_with (policy matches_labels ∷ bare ∷ prod ∷ []) (pod_in (codes "gone"))
      ≡ of_one (error None (codes "namespaces \"gone\" not found") ∷ [])
  pub no_labels_under_ignore : rows_with (policy (under_ignore matches_labels) ∷ bare ∷ prod ∷ []) (pod_in (codes "gone")) ≡ of_one []
  pub other_labels : rows_with (policy matches_labels ∷ bare ∷ prod ∷ []) (pod_in (codes "prod")) ≡ Some []
  pub other_version : rows_with (policy matches_all ∷ bare ∷ prod ∷ []) of_other_version ≡ of_one (unknown ∷ [])
  pub other_version_exact :
      rows_with (policy (constraints (codes ",\"matchPolicy\":\"Exact\"")) ∷ bare ∷ prod ∷ []) of_other_version ≡ Some []
  pub is_blocked : rows_by (Some policy_refused) (policy matches_all ∷ bare ∷ prod ∷ []) node ≡ of_one (blocked ∷ [])
  pub is_blocked_for_others : rows_by (Some policy_refused) (policy matches_labels ∷ bare ∷ prod ∷ []) (pod_in (codes "prod")) ≡ Some []
  pub params_of_a_node : rows_with (policy (with_params matches_all) ∷ to_limits ∷ config (codes "limits") ∷ prod ∷ []) node
      ≡ of_one (error (Some (codes "b")) (codes "cannot use namespaced paramRef in policy binding that matches cluster-scoped resources") ∷ [])
  pub no_reference : rows_with (policy (with_params matches_all) ∷ bare ∷ config (codes "limits") ∷ prod ∷ []) (pod_in (codes "prod"))
      ≡ of_one (evaluated (codes "b") None (Some (codes "prod")) ∷ [])
  pub two_params :
      rows_with (policy (with_params matches_all) ∷ to_each ∷ config (codes "c") ∷ config (codes "a") ∷ prod ∷ []) (pod_in (codes "prod"))
      ≡ of_one (evaluated (codes "b") (Some (codes "a")) (Some (codes "prod"))
      ∷ evaluated (codes "b") (Some (codes "c")) (Some (codes "prod")) ∷ [])
  pub absent_params : rows_with (policy (with_params matches_all) ∷ to_limits ∷ config (codes "a") ∷ prod ∷ []) (pod_in (codes "prod"))
      ≡ of_one (error (Some (codes "b")) (codes "no params found for policy binding with `Deny` parameterNotFoundAction") ∷ [])
  pub absent_params_under_ignore :
      rows_with (policy (under_ignore (with_params matches_all)) ∷ to_limits ∷ config (codes "a") ∷ prod ∷ [])
      (pod_in (codes "prod")) ≡ of_one []
  pub no_params_and_no_namespace :
      rows_with (policy (with_params matches_all) ∷ to_each ∷ config (codes "a") ∷ prod ∷ []) (pod_in (codes "gone"))
      ≡ of_one (not_found ∷ [])
  -- a binding that does not match, or of which it is not known
  pub other_labels_of_binding : rows_with (policy matches_all ∷ bound_by_labels ∷ prod ∷ []) (pod_in (codes "prod")) ≡ of_one []
  pub no_labels_of_binding : rows_with (policy matches_all ∷ bound_by_labels ∷ prod ∷ []) (pod_in (codes "gone"))
      ≡ of_one (error (Some (codes "b")) (codes "namespaces \"gone\" not found") ∷ [])
  pub other_version_of_binding :
      rows_with (policy matches_all ∷ bound_to_other_version ∷ prod ∷ []) (pod_in (codes "prod")) ≡ of_one (unknown ∷ [])
  pub quotes_in_a_name : rows_with (policy matches_labels ∷ bare ∷ prod ∷ []) (pod_in (codes "a\\\"b"))
      ≡ of_one (error None (codes "namespaces \"a\\\"b\" not found") ∷ [])
  -- all namespaces at once
  pub no_name : rows_with (policy matches_labels ∷ bare ∷ prod ∷ []) spaces
      ≡ of_one (error None (codes "Internal error occurred: resource name may not be empty") ∷ [])
  -- what comes before a block, and what after it
  pub is_blocked_in_trouble : rows_by (Some policy_refused) (policy matches_labels ∷ bare ∷ prod ∷ []) (pod_in (codes "gone"))
      ≡ of_one (error None (codes "namespaces \"gone\" not found") ∷ [])
  pub is_blocked_if_it_matches :
      rows_by (Some policy_refused) (policy matches_all ∷ bare ∷ prod ∷ []) of_other_version ≡ of_one (unknown ∷ [])
  pub is_blocked_before_its_bindings :
      rows_by (Some policy_refused) (policy matches_all ∷ bare ∷ prod ∷ []) (pod_in (codes "gone")) ≡ of_one (blocked ∷ [])
  -- errors of params come before the namespace
  pub absent_params_and_no_namespace :
      rows_with (policy (with_params matches_all) ∷ to_limits ∷ config (codes "a") ∷ prod ∷ []) (pod_in (codes "gone"))
      ≡ of_one (error (Some (codes "b")) (codes "no params found for policy binding with `Deny` parameterNotFoundAction") ∷ [])
  pub absent_params_and_no_namespace_under_ignore :
      rows_with (policy (under_ignore (with_params matches_all)) ∷ to_limits ∷ config (codes "a") ∷ prod ∷ [])
      (pod_in (codes "gone")) ≡ of_one []
  pub needless_namespace : rows_with (policy (with_namespaces matches_all) ∷ to_prod ∷ prod ∷ []) (pod_in (codes "prod"))
      ≡ of_one (error (Some (codes "b")) (codes "paramRef.namespace must not be provided for a cluster-scoped `paramKind`") ∷ [])
  pub none_of_a_label :
      rows_with (policy (with_params matches_all) ∷ to_labelled ∷ config (codes "a") ∷ prod ∷ []) (pod_in (codes "prod")) ≡ of_one []
  pub no_kind : rows_with (policy matches_all ∷ to_limits ∷ config (codes "limits") ∷ prod ∷ []) (pod_in (codes "prod"))
      ≡ of_one (evaluated (codes "b") None (Some (codes "prod")) ∷ [])
  -- params of a namespace are looked up in it, and its object is null
  pub of_a_namespace : rows_with (policy (with_params matches_all) ∷ to_limits ∷ config (codes "limits") ∷ prod ∷ []) space
      ≡ of_one (evaluated (codes "b") (Some (codes "limits")) None ∷ [])
  -- several bindings, of which one is of another policy
  pub two_bindings :
      rows_with (policy matches_all ∷ binding_of (codes "c") (bound_to (codes "p") []) ∷ binding_of (codes "b") (bound_to (codes "q") [])
      ∷ binding_of (codes "a") (bound_to (codes "p") []) ∷ prod ∷ []) node
      ≡ Some ((evaluated (codes "a") None None ∷ []) ∷ (evaluated (codes "c") None None ∷ []) ∷ [])
  pub error_before_others :
      rows_with (policy (with_params matches_all) ∷ binding_of (codes "c") (bound_to (codes "p") []) ∷ to_limits
      ∷ config (codes "a") ∷ prod ∷ [])
      (pod_in (codes "prod"))
      ≡ Some ((error (Some (codes "b")) (codes "no params found for policy binding with `Deny` parameterNotFoundAction") ∷ [])
      ∷ (evaluated (codes "c") None (Some (codes "prod")) ∷ []) ∷ [])
