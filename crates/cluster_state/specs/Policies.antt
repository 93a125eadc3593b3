-- Policies with bindings (Kubernetes, ValidatingAdmissionPolicy of admissionregistration.k8s.io/v1): the requests
-- that they apply to, and their kind of params.
use Rattle.std.specs.Prelude.{ℕ, Bool, List, [], ◌∷◌, Option, Some, None, Result, Ok, Err, bytes_eq, codes, option_map, if◌then◌else◌}
use Rattle.std.specs.List.{list_any}
use Rattle.serde_json.specs.Data as json
use Rattle.serde_json.specs.View.{view}
use Rattle.admission_match.specs.Matching.{MatchResources, match_view}
use Rattle.json_fields.specs.Fields.{field, has_only, text_of}
use Rattle.admission_documents.specs.Matching.{match_constraints_of}
use Rattle.cluster_state.specs.Bindings.{Binding, if_text}
use Rattle.cluster_state.specs.Objects.{Named}
use Rattle.cluster_state.specs.Refusals.{Refusal, invalid_policy}
use Rattle.cluster_state.specs.declared.param_kind.ParamKind.{ParamKind as CodeKind}
use Rattle.cluster_state.specs.declared.policy.Policy.{Policy as CodePolicy}
unfoldable pub use Rattle.cluster_state.specs.FailurePolicies.{fails_closed}

-- a kind of params (ParamKind)
pub record ParamKind : Type 0 where
  pub api_version : List ℕ
  pub kind : List ℕ

-- a policy with a binding
pub record BoundPolicy : Type 0 where
  pub name : List ℕ
  pub document : json.Data
  pub constraints : MatchResources
  pub param_kind : Option ParamKind

-- the fields of a kind of params
unfoldable pub param_kind_keys : List (List ℕ)
param_kind_keys = codes "apiVersion" ∷ codes "kind" ∷ []

-- a kind of params; both of its parts are required
abbrev pub param_kind_from : Option (List ℕ) → Option (List ℕ) → Option ParamKind
param_kind_from (Some version) (Some kind) = Some (record { api_version = version; kind = kind })
param_kind_from _ _ = None

unfoldable pub param_kind_parts : json.Data → Option ParamKind
param_kind_parts d = param_kind_from (if_text (text_of (field (codes "apiVersion") d))) (if_text (text_of (field (codes "kind") d)))

abbrev pub param_kind_in : json.Data → Option ParamKind
param_kind_in d = if has_only param_kind_keys d then param_kind_parts d else None

-- an optional kind of params
unfoldable pub param_kind_of : Option json.Data → Option (Option ParamKind)
param_kind_of None = Some None
param_kind_of (Some d) = option_map Some (param_kind_in d)

-- a policy, if both of its parts have the right form
abbrev pub policy_from : List ℕ → json.Data → Option MatchResources → Option (Option ParamKind) → Option BoundPolicy
policy_from name d (Some constraints) (Some kind) = Some (record {
  name = name;
  document = d;
  constraints = constraints;
  param_kind = kind;
})
policy_from name d _ _ = None

-- `matchConstraints` and `paramKind` of its specification
unfoldable pub policy_parts : List ℕ → json.Data → json.Data → Option BoundPolicy
policy_parts name d spec = policy_from name d
    (match_constraints_of (field (codes "matchConstraints") spec)) (param_kind_of (field (codes "paramKind") spec))

abbrev pub policy_spec : List ℕ → json.Data → Option json.Data → Option BoundPolicy
policy_spec name d None = None
policy_spec name d (Some spec) = policy_parts name d spec

-- the policy with this name in a document
unfoldable pub policy_in : List ℕ → json.Data → Option BoundPolicy
policy_in name d = policy_spec name d (field (codes "spec") d)

-- a binding refers to the policy with this name
unfoldable pub is_bound : List Binding → List ℕ → Bool
is_bound bs name = list_any (λ b. bytes_eq b.policy_name name) bs

-- this policy in front of the others, or its refusal
abbrev pub policy_before : List ℕ → Option BoundPolicy → Result (List BoundPolicy) Refusal → Result (List BoundPolicy) Refusal
policy_before name None rest = Err (invalid_policy name)
policy_before name (Some p) (Ok ps) = Ok (p ∷ ps)
policy_before name (Some p) (Err e) = Err e

-- the policies that have a binding
abbrev pub policies_in : List Binding → Named → Result (List BoundPolicy) Refusal
policies_in bs [] = Ok []
policies_in bs (o ∷ os) = if is_bound bs o.0 then policy_before o.0 (policy_in o.0 o.1) (policies_in bs os) else policies_in bs os

-- ---- values of the code

abbrev pub param_kind_view : CodeKind → ParamKind
param_kind_view k = record { api_version = k.api_version.now; kind = k.kind.now }

abbrev pub policy_view : CodePolicy → BoundPolicy
policy_view p = record {
  name = p.name.now;
  document = view p.document.now;
  constraints = match_view p.constraints;
  param_kind = option_map param_kind_view p.param_kind;
}
