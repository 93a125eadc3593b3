-- Policies of a cluster that are blocked, refusals of requests, and the documents from which policies are compiled.
use Rattle.std.specs.Prelude.{◌≡◌, ℕ, true, false, List, [], Option, Some, None, codes, option_map}
use Rattle.serde_json.specs.Data as json
use Rattle.serde_json.specs.Read.{read}
use Rattle.admission_documents.specs.Matching.{match_all}
use Rattle.policy_glue.specs.declared.policy_error.PolicyError.TheVariants.{NotJson}
use Rattle.admission.specs.declared.policy_refusal.PolicyRefusal.TheVariants.{Unread}
use Rattle.admission.specs.declared.run_error.RunError.TheVariants as run_error
use Rattle.cluster_state.specs.Items.{Item}
use Rattle.cluster_state.specs.Objects.{Objects, no_objects}
use Rattle.cluster_state.specs.Policies.{BoundPolicy, ParamKind}
use Rattle.cluster_state.specs.Rows.{held, limit_kind, things}
use Rattle.cluster_state.specs.State.{ClusterState}
use Rattle.cluster_plan.specs.Steps.{policy_refused, unknown_kind}
use Rattle.cluster_response.specs.declared.cluster_refusal.ClusterRefusal.TheVariants as refusal
use Rattle.cluster_gate.specs.CompiledDocuments.{compiled_document}
use Rattle.cluster_gate.specs.Dispatch.{block_refusal, error_refusal}
use Rattle.cluster_gate.specs.Gates.{block_of, lacks_kind}
use Rattle.cluster_gate.specs.Texts.{IsJsonTextIf, IsJsonTextOf}
use Rattle.cluster_gate.specs.declared.block_cause.BlockCause.TheVariants.{Refused, NamesNamespace, UnknownParamKind}

-- ---- blocks

-- a state with these items and objects
abbrev pub state_of : List Item → Objects → ClusterState
state_of items objects = record { items = items; objects = objects; bindings = []; policies = [] }

-- the policy p with this kind of params
abbrev pub policy_with : Option ParamKind → BoundPolicy
policy_with kind = record { name = codes "p"; document = json.null; constraints = match_all; param_kind = kind }

-- C7 blocks a policy that is refused or names the namespace in a match condition, C8 one whose kind of params is not
-- known
pub record BlockRowsHold : Type 0 where
  pub no_kind : lacks_kind (state_of [] no_objects) (policy_with None) ≡ false
  pub unknown : lacks_kind (state_of [] no_objects) (policy_with (Some limit_kind)) ≡ true
  pub known : lacks_kind (state_of things held) (policy_with (Some limit_kind)) ≡ false
  pub refused : block_of (Refused (Unread NotJson)) ≡ policy_refused
  pub names_namespace : block_of NamesNamespace ≡ policy_refused
  pub unknown_param_kind : block_of UnknownParamKind ≡ unknown_kind
  pub blocked_policy : block_refusal policy_refused ≡ refusal.PolicyRefused
  pub blocked_kind : block_refusal unknown_kind ≡ refusal.UnknownParamKind

-- each refusal of an evaluation is reported unchanged; there is none if an allocation failed
pub record ErrorRowsHold : Type 0 where
  pub refused_policy : error_refusal (run_error.PolicyRefused (Unread NotJson)) ≡ Some refusal.PolicyRefused
  pub refused_review : error_refusal run_error.ReviewRefused ≡ Some refusal.ReviewRefused
  pub refused_namespace : error_refusal run_error.NamespaceOrParamsRefused ≡ Some refusal.NamespaceOrParamsRefused
  pub out_of_steps : error_refusal run_error.OutOfSteps ≡ Some refusal.OutOfSteps
  pub over_limit : error_refusal run_error.OverLimit ≡ Some refusal.OverLimit
  pub out_of_reads : error_refusal run_error.OutOfReads ≡ Some refusal.OutOfReads
  pub no_memory : error_refusal run_error.Memory ≡ None

-- ---- documents

-- a text of a value is compact, and is there exactly if the value is
pub record JsonTextsHold : Type 0 where
  pub none : IsJsonTextIf None None
  pub text_of_none : IsJsonTextIf None (Some (codes "null")) → ⊥
  pub no_text : IsJsonTextIf (Some json.null) None → ⊥
  pub text : IsJsonTextIf (Some json.null) (Some (codes "null"))
  pub other_text : IsJsonTextIf (Some json.null) (Some (codes "true")) → ⊥
  pub text_with_a_blank : IsJsonTextOf json.null (codes " null") → ⊥

-- the document that is compiled of the one in this text
abbrev pub compiled : List ℕ → Option json.Data
compiled text = option_map compiled_document (read text)

-- a policy is compiled without its status and without the fields that are null. A key that no policy has, and a field of
-- another part, stay null, so they are refused
pub record CompiledRowsHold : Type 0 where
  pub status : compiled (codes "{\"a\":1,\"status\":{},\"b\":2}") ≡ read (codes "{\"a\":1,\"b\":2}")
  pub truth : compiled_document (json.boolean true) ≡ json.boolean true
  pub number : compiled (codes "1") ≡ read (codes "1")
  pub name : compiled_document (json.string (codes "status")) ≡ json.string (codes "status")
  pub array : compiled (codes "[{\"status\":{}}]") ≡ read (codes "[{\"status\":{}}]")
  pub optional_fields :
      compiled (codes "{\"spec\":{\"failurePolicy\":null,\"matchConditions\":null,\"paramKind\":null,\"variables\":null}}")
      ≡ read (codes "{\"spec\":{}}")
  pub required_fields : compiled (codes "{\"spec\":{\"matchConstraints\":null,\"validations\":null}}") ≡ read (codes "{\"spec\":{}}")
  pub annotations : compiled (codes "{\"spec\":{\"auditAnnotations\":null}}") ≡ read (codes "{\"spec\":{}}")
  pub given_annotations :
      compiled (codes "{\"spec\":{\"auditAnnotations\":[]}}") ≡ read (codes "{\"spec\":{\"auditAnnotations\":[]}}")
  pub ignore : compiled (codes "{\"spec\":{\"failurePolicy\":\"Ignore\"}}") ≡ read (codes "{\"spec\":{\"failurePolicy\":\"Ignore\"}}")
  pub validation :
      compiled (codes "{\"spec\":{\"validations\":[{\"expression\":\"true\",\"message\":null,\"messageExpression\":null,\"reason\":null}]}}")
      ≡ read (codes "{\"spec\":{\"validations\":[{\"expression\":\"true\"}]}}")
  pub second_validation : compiled (codes "{\"spec\":{\"validations\":[{\"message\":\"m\"},{\"reason\":null}]}}")
      ≡ read (codes "{\"spec\":{\"validations\":[{\"message\":\"m\"},{}]}}")
  pub no_validation : compiled (codes "{\"spec\":{\"validations\":[null]}}") ≡ read (codes "{\"spec\":{\"validations\":[null]}}")
  pub unknown_field : compiled (codes "{\"spec\":{\"other\":null}}") ≡ read (codes "{\"spec\":{\"other\":null}}")
  pub field_of_another_part : compiled (codes "{\"spec\":{\"reason\":null}}") ≡ read (codes "{\"spec\":{\"reason\":null}}")
  pub no_specification : compiled (codes "{\"spec\":null}") ≡ read (codes "{\"spec\":null}")
