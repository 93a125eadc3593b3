-- Literal lists, and what the definitions read in them.
use Rattle.std.specs.Prelude.{◌≡◌, ℕ, Bool, true, false, List, [], ◌∷◌, ◌++◌, map, Option, Some, None, Result, Ok, Err, codes, is_some, option_and_then, option_map}
use Rattle.std.specs.Result.{result_err, result_ok}
use Rattle.serde_json.specs.Data as json
use Rattle.serde_json.specs.Read.{read}
use Rattle.admission_documents.specs.Matching.{match_all}
use Rattle.admission_documents.specs.Requests.{GroupVersionKind}
use Rattle.admission_documents.specs.Selectors.{no_requirements}
use Rattle.cluster_state.specs.Bindings.{Binding, ParamRef, binding_in, by_labels, by_name}
use Rattle.cluster_state.specs.Items.{Item}
use Rattle.cluster_state.specs.Objects.{Named, Objects, no_objects, with_item}
use Rattle.cluster_state.specs.Params.{KnownKind, known_kind, missing, namespace_object, no_object, object, params_of, scope_by}
use Rattle.cluster_state.specs.Parts.{binding_part_path}
use Rattle.cluster_state.specs.Policies.{ParamKind}
use Rattle.cluster_state.specs.Refusals.{Refusal, not_a_list, invalid_item, duplicate_item, no_namespace, invalid_binding, invalid_policy}
use Rattle.cluster_state.specs.State.{ClusterState, state_of}
use Rattle.cluster_state.specs.declared.action.Action.TheVariants.{Deny, Warn, Audit}
use Rattle.cluster_state.specs.declared.binding_part.BindingPart.{BindingPart}
use Rattle.cluster_state.specs.declared.binding_part.BindingPart.TheVariants as part
use Rattle.cluster_state.specs.declared.param_error.ParamError.TheVariants.{ClusterScopedRequest, NeedlessNamespace, NotFound}
use Rattle.cluster_state.specs.declared.param_scope.ParamScope.TheVariants.{Namespaced, Cluster}

-- ---- states

-- a List with these items
abbrev pub listing : List ℕ → List ℕ
listing items = codes "{\"apiVersion\":\"v1\",\"kind\":\"List\",\"items\":[" ++ (items ++ codes "]}")

abbrev pub joined : Option json.Data → Option (List json.Data) → Option (List json.Data)
joined (Some d) (Some ds) = Some (d ∷ ds)
joined _ _ = None

-- the documents of texts, if each is JSON
abbrev pub documents : List (List ℕ) → Option (List json.Data)
documents [] = Some []
documents (t ∷ ts) = joined (read t) (documents ts)

abbrev pub refusal_of : Result ClusterState Refusal → Option Refusal
refusal_of (Ok s) = None
refusal_of (Err e) = Some e

-- the refusal of the state in texts
abbrev pub refusal : List (List ℕ) → Option Refusal
refusal texts = option_and_then (λ ds. refusal_of (state_of ds)) (documents texts)

abbrev pub names_of : Result ClusterState Refusal → Option (List (List ℕ))
names_of (Ok s) = Some (map (λ p. p.name) s.policies)
names_of (Err e) = None

-- the names of the policies of the state in texts
abbrev pub policy_names : List (List ℕ) → Option (List (List ℕ))
policy_names texts = option_and_then (λ ds. names_of (state_of ds)) (documents texts)

abbrev pub prod : List ℕ
prod = codes "{\"apiVersion\":\"v1\",\"kind\":\"Namespace\",\"metadata\":{\"name\":\"prod\"}}"

-- a policy with this name, a rule, and the further fields that kubectl prints
abbrev pub policy : List ℕ → List ℕ
policy name =
    codes "{\"apiVersion\":\"admissionregistration.k8s.io/v1\",\"kind\":\"ValidatingAdmissionPolicy\",\"metadata\":{\"name\":\"" ++ (name ++ codes "\",\"uid\":\"u\"},\"spec\":{\"matchConstraints\":{\"resourceRules\":[{}]}},\"status\":{}}")

-- a policy p without rules
abbrev pub bare_policy : List ℕ
bare_policy =
    codes "{\"apiVersion\":\"admissionregistration.k8s.io/v1\",\"kind\":\"ValidatingAdmissionPolicy\",\"metadata\":{\"name\":\"p\"},\"spec\":{}}"

-- a binding b of this policy with these actions
abbrev pub binding : List ℕ → List ℕ → List ℕ
binding of_policy actions =
    codes "{\"apiVersion\":\"admissionregistration.k8s.io/v1\",\"kind\":\"ValidatingAdmissionPolicyBinding\",\"metadata\":{\"name\":\"b\"},\"spec\":{\"policyName\":\"" ++ (of_policy ++ (codes "\",\"validationActions\":" ++ (actions ++ codes "}}")))

-- an object of this version and kind in the namespace prod
abbrev pub placed : List ℕ → List ℕ → List ℕ
placed version kind =
    codes "{\"apiVersion\":\""
    ++ (version ++ (codes "\",\"kind\":\"" ++ (kind ++ codes "\",\"metadata\":{\"name\":\"n\",\"namespace\":\"prod\"}}")))

abbrev pub deny : List ℕ
deny = codes "[\"Deny\"]"

-- texts with commas between them
abbrev pub commas : List (List ℕ) → List ℕ
commas [] = []
commas (t ∷ []) = t
commas (t ∷ u ∷ ts) = t ++ (codes "," ++ commas (u ∷ ts))

abbrev pub one_list : List (List ℕ) → List (List ℕ)
one_list items = listing (commas items) ∷ []

pub record StateRowsHold : Type 0 where
  pub bound : policy_names (one_list (policy (codes "q") ∷ policy (codes "p") ∷ binding (codes "p") deny ∷ prod ∷ []))
      ≡ Some (codes "p" ∷ [])
  pub several_lists :
      policy_names (listing prod ∷ listing (policy (codes "p")) ∷ listing (binding (codes "p") deny) ∷ []) ≡ Some (codes "p" ∷ [])
  pub unbound_policy_is_not_read : policy_names (one_list (bare_policy ∷ prod ∷ [])) ≡ Some []
  pub binding_of_no_policy : policy_names (one_list (binding (codes "gone") deny ∷ prod ∷ [])) ≡ Some []
  pub no_list : refusal (listing prod ∷ prod ∷ []) ≡ Some (not_a_list 1)
  pub no_items : refusal (codes "{\"apiVersion\":\"v1\",\"kind\":\"List\"}" ∷ []) ≡ Some (not_a_list 0)
  pub no_name :
      refusal (one_list (prod ∷ codes "{\"apiVersion\":\"v1\",\"kind\":\"Pod\",\"metadata\":{\"name\":\"\"}}" ∷ [])) ≡ Some (invalid_item 1)
  pub number_as_label :
      refusal (one_list (codes "{\"apiVersion\":\"v1\",\"kind\":\"Pod\",\"metadata\":{\"name\":\"web\",\"labels\":{\"n\":1}}}" ∷ [])) ≡ Some (invalid_item 0)
  pub other_version :
      refusal (one_list (codes "{\"apiVersion\":\"admissionregistration.k8s.io/v1beta1\",\"kind\":\"ValidatingAdmissionPolicy\",\"metadata\":{\"name\":\"p\"}}" ∷ [])) ≡ Some (invalid_item 0)
  pub policy_in_a_namespace :
      refusal (one_list (placed (codes "admissionregistration.k8s.io/v1") (codes "ValidatingAdmissionPolicy") ∷ prod
      ∷ [])) ≡ Some (invalid_item 0)
  pub binding_in_a_namespace :
      refusal (one_list (placed (codes "admissionregistration.k8s.io/v1") (codes "ValidatingAdmissionPolicyBinding")
      ∷ prod ∷ [])) ≡ Some (invalid_item 0)
  pub definition_in_a_namespace :
      refusal (one_list (prod ∷ placed (codes "apiextensions.k8s.io/v1") (codes "CustomResourceDefinition") ∷ [])) ≡ Some (invalid_item 1)
  pub namespace_in_a_namespace : refusal (one_list (placed (codes "v1") (codes "Namespace") ∷ prod ∷ [])) ≡ Some (invalid_item 0)
  pub other_in_a_namespace : refusal (one_list (placed (codes "x.io/v1") (codes "Namespace") ∷ prod ∷ [])) ≡ None
  pub policy_of_another_group :
      refusal (one_list (codes "{\"apiVersion\":\"x.io/v1\",\"kind\":\"ValidatingAdmissionPolicy\",\"metadata\":{\"name\":\"p\"}}" ∷ prod ∷ [])) ≡ None
  pub twice : refusal (listing prod ∷ listing prod ∷ []) ≡ Some (duplicate_item (codes "prod"))
  pub lists_before_items : refusal (listing (codes "{}") ∷ codes "{}" ∷ []) ≡ Some (not_a_list 1)
  -- items are counted through the lists in their order
  pub second_of_two_lists : refusal (listing prod ∷ listing (codes "{}") ∷ []) ≡ Some (invalid_item 1)
  pub first_of_two_lists : refusal (listing (codes "{}") ∷ listing prod ∷ []) ≡ Some (invalid_item 0)
  pub none : refusal (one_list []) ≡ Some no_namespace
  pub namespaces_before_bindings : refusal (one_list (binding (codes "p") (codes "[]") ∷ [])) ≡ Some no_namespace
  pub deny_with_warn : refusal (one_list (binding (codes "p") (codes "[\"Deny\",\"Warn\"]") ∷ prod ∷ []))
      ≡ Some (invalid_binding (codes "b") part.ValidationActions)
  pub bindings_before_policies : refusal (one_list (bare_policy ∷ binding (codes "p") (codes "[]") ∷ prod ∷ []))
      ≡ Some (invalid_binding (codes "b") part.ValidationActions)
  pub no_rules : refusal (one_list (bare_policy ∷ binding (codes "p") deny ∷ prod ∷ [])) ≡ Some (invalid_policy (codes "p"))

-- ---- bindings

-- the binding b with this specification, or its first invalid part
abbrev pub read_binding : List ℕ → Option (Result Binding BindingPart)
read_binding spec = option_map (binding_in (codes "b")) (read (codes "{\"spec\":" ++ (spec ++ codes "}")))

abbrev pub is_binding : List ℕ → Bool
is_binding spec = is_some (option_and_then result_ok (read_binding spec))

abbrev pub invalid_part : List ℕ → Option BindingPart
invalid_part spec = option_and_then result_err (read_binding spec)

abbrev pub limits : ParamRef
limits = record { choice = by_name (codes "limits"); namespace = []; denies_absence = true }

pub record BindingRowsHold : Type 0 where
  pub params :
      read_binding (codes "{\"policyName\":\"p\",\"validationActions\":[\"Warn\",\"Audit\"],\"paramRef\":{\"name\":\"limits\",\"parameterNotFoundAction\":\"Deny\"}}")
      ≡ Some (Ok (record {
        name = codes "b";
        policy_name = codes "p";
        actions = Warn ∷ Audit ∷ [];
        resources = match_all;
        param_ref = Some limits;
      }))
  pub no_params : read_binding (codes "{\"policyName\":\"p\",\"validationActions\":[\"Deny\"],\"matchResources\":null}")
      ≡ Some (Ok (record { name = codes "b"; policy_name = codes "p"; actions = Deny ∷ []; resources = match_all; param_ref = None }))
  pub selector :
      is_binding (codes "{\"policyName\":\"p\",\"validationActions\":[\"Deny\"],\"paramRef\":{\"selector\":{},\"parameterNotFoundAction\":\"Allow\"}}") ≡ true
  pub no_policy : invalid_part (codes "{\"validationActions\":[\"Deny\"]}") ≡ Some part.PolicyName
  pub empty_policy : invalid_part (codes "{\"policyName\":\"\",\"validationActions\":[\"Deny\"]}") ≡ Some part.PolicyName
  pub no_actions : invalid_part (codes "{\"policyName\":\"p\"}") ≡ Some part.ValidationActions
  pub doubled_action : invalid_part (codes "{\"policyName\":\"p\",\"validationActions\":[\"Deny\",\"Deny\"]}") ≡ Some part.ValidationActions
  pub other_action : invalid_part (codes "{\"policyName\":\"p\",\"validationActions\":[\"Log\"]}") ≡ Some part.ValidationActions
  pub unknown_key : invalid_part (codes "{\"policyName\":\"p\",\"validationActions\":[\"Deny\"],\"x\":1}") ≡ Some part.Spec
  pub name_and_selector :
      invalid_part (codes "{\"policyName\":\"p\",\"validationActions\":[\"Deny\"],\"paramRef\":{\"name\":\"a\",\"selector\":{},\"parameterNotFoundAction\":\"Deny\"}}") ≡ Some part.ParamRef
  pub neither :
      invalid_part (codes "{\"policyName\":\"p\",\"validationActions\":[\"Deny\"],\"paramRef\":{\"parameterNotFoundAction\":\"Deny\"}}") ≡ Some part.ParamRef
  pub no_action_of_absence :
      invalid_part (codes "{\"policyName\":\"p\",\"validationActions\":[\"Deny\"],\"paramRef\":{\"name\":\"a\"}}") ≡ Some part.ParamRef
  -- the first part that is invalid
  pub no_specification : option_map (binding_in (codes "b")) (read (codes "{}")) ≡ Some (Err part.Spec)
  pub list_as_specification : invalid_part (codes "[]") ≡ Some part.Spec
  pub other_policy_of_matches :
      invalid_part (codes "{\"policyName\":\"p\",\"validationActions\":[\"Deny\"],\"matchResources\":{\"matchPolicy\":\"Some\"}}") ≡ Some part.MatchResources
  pub actions_before_matches :
      invalid_part (codes "{\"policyName\":\"p\",\"matchResources\":{\"matchPolicy\":\"Some\"},\"paramRef\":{}}") ≡ Some part.ValidationActions
  pub matches_before_params :
      invalid_part (codes "{\"policyName\":\"p\",\"validationActions\":[\"Warn\"],\"matchResources\":{\"matchPolicy\":\"Some\"},\"paramRef\":{}}")
      ≡ Some part.MatchResources
  pub key_before_policy : invalid_part (codes "{\"x\":1}") ≡ Some part.Spec
  pub none : invalid_part (codes "{\"policyName\":\"p\",\"validationActions\":[\"Deny\"]}") ≡ None
  -- the paths of the parts
  pub specification : binding_part_path part.Spec ≡ codes "spec"
  pub policy_name : binding_part_path part.PolicyName ≡ codes "spec.policyName"
  pub actions : binding_part_path part.ValidationActions ≡ codes "spec.validationActions"
  pub resources : binding_part_path part.MatchResources ≡ codes "spec.matchResources"
  pub param_ref : binding_part_path part.ParamRef ≡ codes "spec.paramRef"

-- ---- params

-- an object of this collection, whose document is its name
abbrev pub thing : List ℕ → List ℕ → List ℕ → List ℕ → Item
thing version kind namespace name = record {
  collection = record { api_version = version; kind = kind; namespace = namespace };
  name = name;
  document = json.string name;
}

abbrev pub config : List ℕ → List ℕ → Item
config namespace name = thing (codes "v1") (codes "ConfigMap") namespace name

-- two objects in prod, one in dev, and one that is cluster-scoped
abbrev pub things : List Item
things =
    config (codes "prod") (codes "b") ∷ config (codes "prod") (codes "a") ∷ config (codes "dev") (codes "c")
    ∷ thing (codes "x.io/v1") (codes "Limit") [] (codes "l") ∷ []

abbrev pub with_all : Objects → List Item → Objects
with_all objects [] = objects
with_all objects (i ∷ rest) = with_all (with_item objects i) rest

abbrev pub held : Objects
held = with_all no_objects things

abbrev pub config_kind : ParamKind
config_kind = record { api_version = codes "v1"; kind = codes "ConfigMap" }

abbrev pub limit_kind : ParamKind
limit_kind = record { api_version = codes "x.io/v1"; kind = codes "Limit" }

abbrev pub configs : KnownKind
configs = record { kind = config_kind; scope = Namespaced }

abbrev pub limits_kind : KnownKind
limits_kind = record { kind = limit_kind; scope = Cluster }

-- a reference to this name in this namespace; the absence of params denies
abbrev pub to_name : List ℕ → List ℕ → ParamRef
to_name name namespace = record { choice = by_name name; namespace = namespace; denies_absence = true }

abbrev pub to_all : ParamRef
to_all = record { choice = by_labels no_requirements; namespace = []; denies_absence = true }

abbrev pub texts_of : List (List ℕ) → List json.Data
texts_of ts = map json.string ts

pub record ParamRowsHold : Type 0 where
  pub by_name : params_of held configs (to_name (codes "a") []) (codes "prod") ≡ Ok (texts_of (codes "a" ∷ []))
  pub in_the_order_of_names : params_of held configs to_all (codes "prod") ≡ Ok (texts_of (codes "a" ∷ codes "b" ∷ []))
  pub of_another_namespace : params_of held configs (to_name (codes "c") []) (codes "prod") ≡ Err NotFound
  pub of_the_named_namespace : params_of held configs (to_name (codes "c") (codes "dev")) (codes "prod") ≡ Ok (texts_of (codes "c" ∷ []))
  pub absence_allows : params_of held configs (record (to_name (codes "c") []) { denies_absence = false }) (codes "prod") ≡ Ok []
  pub node : params_of held configs (to_name (codes "a") []) [] ≡ Err ClusterScopedRequest
  pub node_by_namespace : params_of held configs (to_name (codes "a") (codes "prod")) [] ≡ Ok (texts_of (codes "a" ∷ []))
  pub of_the_cluster : params_of held limits_kind (to_name (codes "l") []) (codes "prod") ≡ Ok (texts_of (codes "l" ∷ []))
  pub needless_namespace : params_of held limits_kind (to_name (codes "l") (codes "prod")) (codes "prod") ≡ Err NeedlessNamespace

abbrev pub named_document : Option json.Data → Named
named_document (Some d) = (codes "limits.x.io", d) ∷ []
named_document None = []

-- the definition of kind Limit of x.io, in version v1, with this scope
abbrev pub definition : List ℕ → Named
definition scope =
    named_document (read (codes "{\"spec\":{\"group\":\"x.io\",\"names\":{\"kind\":\"Limit\"},\"scope\":\""
    ++ (scope ++ codes "\",\"versions\":[{\"name\":\"v1\",\"served\":true},{\"name\":\"v2\",\"served\":false}]}}")))

-- the same in no version
abbrev pub without_versions : Named
without_versions = named_document (read (codes "{\"spec\":{\"group\":\"x.io\",\"names\":{\"kind\":\"Limit\"},\"scope\":\"Cluster\"}}"))

-- an object of kind Limit in prod
abbrev pub limit_in_prod : List Item
limit_in_prod = thing (codes "x.io/v1") (codes "Limit") (codes "prod") (codes "l") ∷ []

pub record KindRowsHold : Type 0 where
  pub by_objects : scope_by config_kind things [] ≡ Some Namespaced
  pub by_objects_of_the_cluster : scope_by limit_kind things [] ≡ Some Cluster
  pub of_another_kind : scope_by limit_kind (thing (codes "x.io/v1") (codes "Other") (codes "prod") (codes "o") ∷ []) [] ≡ None
  pub of_another_version : scope_by limit_kind (thing (codes "x.io/v2") (codes "Limit") (codes "prod") (codes "o") ∷ []) [] ≡ None
  pub by_definition : scope_by limit_kind [] (definition (codes "Namespaced")) ≡ Some Namespaced
  pub definition_first : scope_by limit_kind things (definition (codes "Namespaced")) ≡ Some Namespaced
  pub version_that_is_not_served : scope_by (record limit_kind { api_version = codes "x.io/v2" }) [] (definition (codes "Cluster")) ≡ None
  pub without_version : scope_by limit_kind [] without_versions ≡ None
  pub other_group : scope_by (record limit_kind { api_version = codes "y.io/v1" }) [] (definition (codes "Cluster")) ≡ None
  pub not_listed : known_kind config_kind [] no_objects ≡ None
  pub known : known_kind limit_kind things held ≡ Some limits_kind
  pub in_a_namespace_by_definition : known_kind limit_kind limit_in_prod (λ c. definition (codes "Namespaced"))
      ≡ Some (record { kind = limit_kind; scope = Namespaced })
  pub in_a_namespace_of_the_cluster : known_kind limit_kind limit_in_prod (λ c. definition (codes "Cluster")) ≡ None
  pub in_another_version : known_kind limit_kind (thing (codes "x.io/v2") (codes "Limit") [] (codes "m") ∷ things) held ≡ None

-- ---- the namespace of a request

abbrev pub kind : List ℕ → GroupVersionKind
kind name = record { group = []; version = codes "v1"; kind = name }

abbrev pub in_prod : Objects
in_prod = with_item no_objects (thing (codes "v1") (codes "Namespace") [] (codes "prod"))

pub record NamespaceRowsHold : Type 0 where
  pub of_a_pod : namespace_object in_prod (kind (codes "Pod")) (codes "prod") ≡ object (json.string (codes "prod"))
  pub of_a_node : namespace_object in_prod (kind (codes "Node")) [] ≡ no_object
  pub of_a_namespace : namespace_object in_prod (kind (codes "Namespace")) (codes "prod") ≡ no_object
  pub that_is_gone : namespace_object in_prod (kind (codes "Pod")) (codes "gone") ≡ missing
