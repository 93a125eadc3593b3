-- Lists of a cluster: what is an item, which actions a binding may have, and the scopes of kinds of params. The values
-- are those of the API server's validation (ValidatingAdmissionPolicyBinding, CustomResourceDefinition), worked by hand.
use Rattle.std.specs.Prelude.{◌≡◌, ℕ, true, false, List, [], ◌∷◌, ◌++◌, Some, None, Result, Ok, Err, String, codes, string_bytes}
use Rattle.std.specs.declared.alloc.Global.{Global}
use Rattle.serde_json.specs.Read.{read}
use Rattle.admission_documents.specs.Matching.{match_all}
use Rattle.cluster_state.specs.Objects.{Named}
use Rattle.cluster_state.specs.Params.{known_kind, param_error_text, params_of, scope_by}
use Rattle.cluster_state.specs.Refusals.{Refusal, IsDueRefusal, duplicate_item, invalid_binding, invalid_item}
use Rattle.cluster_state.specs.Refusals.{invalid_policy, no_namespace, not_a_list}
use Rattle.cluster_state.specs.Rows.{definition, held, is_binding, limit_kind, limits, limits_kind, named_document}
use Rattle.cluster_state.specs.Rows.{one_list, prod, read_binding, refusal, texts_of, thing, things, to_name}
use Rattle.cluster_state.specs.declared.action.Action.TheVariants.{Warn}
use Rattle.cluster_state.specs.declared.binding_part.BindingPart.TheVariants.{ParamRef, Spec}
use Rattle.cluster_state.specs.declared.param_error.ParamError.TheVariants as param_error
use Rattle.cluster_state.specs.declared.param_scope.ParamScope.TheVariants.{Cluster}
use Rattle.cluster_state.specs.declared.state_error.StateError.TheVariants.{NotAList, InvalidItem, DuplicateItem}
use Rattle.cluster_state.specs.declared.state_error.StateError.TheVariants.{NoNamespace, InvalidBinding}
use Rattle.cluster_state.specs.declared.state_error.StateError.TheVariants.{InvalidPolicy, Memory}

-- ---- lists

-- a namespace prod of another group
abbrev pub other_prod : List ℕ
other_prod = codes "{\"apiVersion\":\"x.io/v1\",\"kind\":\"Namespace\",\"metadata\":{\"name\":\"prod\"}}"

-- a webhook of the policies' group, in another version
abbrev pub webhook : List ℕ
webhook = codes "{\"apiVersion\":\"admissionregistration.k8s.io/v1beta1\",\"kind\":\"ValidatingWebhookConfiguration\",\"metadata\":{\"name\":\"w\"}}"

pub record ListRowsHold : Type 0 where
  pub list_as_labels :
      refusal (one_list (codes "{\"apiVersion\":\"v1\",\"kind\":\"Pod\",\"metadata\":{\"name\":\"web\",\"labels\":[\"n\"]}}" ∷ prod ∷ []))
      ≡ Some (invalid_item 0)
  pub webhook_of_another_version : refusal (one_list (webhook ∷ prod ∷ [])) ≡ None
  pub list_of_pods : refusal (codes "{\"apiVersion\":\"v1\",\"kind\":\"PodList\",\"items\":[]}" ∷ []) ≡ Some (not_a_list 0)
  pub list_of_another_version : refusal (codes "{\"apiVersion\":\"v2\",\"kind\":\"List\",\"items\":[]}" ∷ []) ≡ Some (not_a_list 0)
  pub namespace_of_another_group : refusal (one_list (other_prod ∷ [])) ≡ Some no_namespace
  pub one_name_in_two_groups : refusal (one_list (other_prod ∷ prod ∷ [])) ≡ None

-- the lists are refused for this reason
abbrev pub refused : Refusal → Result (List ℕ) Refusal
refused r = Err r

-- the error of the code for each refusal without a name
pub record DueRowsHold : Type 0 where
  pub list : IsDueRefusal (refused (not_a_list 1)) (NotAList 1)
  pub list_as_item : IsDueRefusal (refused (not_a_list 1)) (InvalidItem 1) → ⊥
  pub item : IsDueRefusal (refused (invalid_item 2)) (InvalidItem 2)
  pub item_as_list : IsDueRefusal (refused (invalid_item 2)) (NotAList 2) → ⊥
  pub namespace : IsDueRefusal (refused no_namespace) NoNamespace
  pub list_as_namespace : IsDueRefusal (refused (not_a_list 0)) NoNamespace → ⊥
  pub memory : IsDueRefusal (refused no_namespace) Memory

-- the error of the code for each refusal with a name, for every name
pub record DueNameRowsHold : Type 0 where
  pub duplicate : (name : String Global) → IsDueRefusal (refused (duplicate_item (string_bytes name))) (DuplicateItem name)
  pub binding : (name : String Global) → IsDueRefusal (refused (invalid_binding (string_bytes name) ParamRef)) (InvalidBinding name ParamRef)
  pub other_part : (name : String Global) → IsDueRefusal (refused (invalid_binding (string_bytes name) ParamRef)) (InvalidBinding name Spec) → ⊥
  pub policy : (name : String Global) → IsDueRefusal (refused (invalid_policy (string_bytes name))) (InvalidPolicy name)

-- ---- bindings

-- a binding with these actions
abbrev pub with_actions : List ℕ → List ℕ
with_actions actions = codes "{\"policyName\":\"p\",\"validationActions\":[" ++ (actions ++ codes "]}")

-- any two different actions except Deny with Warn, in any order
pub record ActionRowsHold : Type 0 where
  pub audit_and_warn : is_binding (with_actions (codes "\"Audit\",\"Warn\"")) ≡ true
  pub audit_and_deny : is_binding (with_actions (codes "\"Audit\",\"Deny\"")) ≡ true
  pub deny_and_audit : is_binding (with_actions (codes "\"Deny\",\"Audit\"")) ≡ true
  pub warn_and_deny : is_binding (with_actions (codes "\"Warn\",\"Deny\"")) ≡ false
  pub audit_twice : is_binding (with_actions (codes "\"Audit\",\"Audit\"")) ≡ false
  pub warn_twice : is_binding (with_actions (codes "\"Warn\",\"Warn\"")) ≡ false
  pub second_twice : is_binding (with_actions (codes "\"Warn\",\"Audit\",\"Audit\"")) ≡ false
  pub all_three : is_binding (with_actions (codes "\"Deny\",\"Warn\",\"Audit\"")) ≡ false
  -- parameterNotFoundAction is Allow
  pub absence_allows :
      read_binding (codes "{\"policyName\":\"p\",\"validationActions\":[\"Warn\"],\"paramRef\":{\"name\":\"limits\",\"parameterNotFoundAction\":\"Allow\"}}")
      ≡ Some (Ok (record {
        name = codes "b";
        policy_name = codes "p";
        actions = Warn ∷ [];
        resources = match_all;
        param_ref = Some (record limits { denies_absence = false });
      }))

-- ---- params

-- a definition of kind Limit of x.io with these versions
abbrev pub definition_in : List ℕ → Named
definition_in versions =
    named_document (read (codes "{\"spec\":{\"group\":\"x.io\",\"names\":{\"kind\":\"Limit\"},\"scope\":\"Cluster\",\"versions\":[" ++ (versions ++ codes "]}}")))

pub record ParamAnswersHold : Type 0 where
  pub of_the_cluster : scope_by limit_kind [] (definition (codes "Cluster")) ≡ Some Cluster
  pub of_no_scope : scope_by limit_kind [] (definition (codes "Node")) ≡ None
  pub of_another_kind : scope_by (record limit_kind { kind = codes "Other" }) [] (definition (codes "Cluster")) ≡ None
  -- `served` is required, and a bool
  pub without_served : scope_by limit_kind [] (definition_in (codes "{\"name\":\"v1\"}")) ≡ None
  pub text_as_served : scope_by limit_kind [] (definition_in (codes "{\"name\":\"v1\",\"served\":\"true\"}")) ≡ None
  pub second_version : scope_by limit_kind [] (definition_in (codes "{\"name\":\"v2\",\"served\":true},{\"name\":\"v1\",\"served\":true}"))
      ≡ Some Cluster
  -- objects of another version count only if they are of the same group and kind
  pub other_kind_of_the_group : known_kind limit_kind (thing (codes "x.io/v2") (codes "Other") [] (codes "m") ∷ things) held
      ≡ Some limits_kind
  pub kind_of_another_group : known_kind limit_kind (thing (codes "y.io/v1") (codes "Limit") [] (codes "m") ∷ things) held
      ≡ Some limits_kind
  -- params of the cluster need no namespace
  pub of_the_cluster_for_a_node : params_of held limits_kind (to_name (codes "l") []) [] ≡ Ok (texts_of (codes "l" ∷ []))
  -- a failed allocation has no message of the API server
  pub no_memory : param_error_text param_error.Memory ≡ codes "out of memory"
