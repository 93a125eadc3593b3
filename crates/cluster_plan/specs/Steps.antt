-- What a policy of a cluster does with a request, step by step (Kubernetes, dispatch of ValidatingAdmissionPolicies). The
-- policy's expressions are not evaluated here.
use Rattle.std.specs.Prelude.{◌≡◌, ℕ, Vec, Bool, true, false, List, [], ◌∷◌, map, Option, Some, None, Result, Ok, Err, IfSome, codes, option_map, string_bytes}
use Rattle.std.specs.List.{concat}
use Rattle.std.specs.declared.alloc.Global.{Global}
use Rattle.serde_json.specs.Data as json
use Rattle.serde_json.specs.View.{view}
use Rattle.admission_match.specs.Matching.{match_answer}
use Rattle.admission_match.specs.declared.answer.Answer.{Answer}
use Rattle.admission_match.specs.declared.answer.Answer.TheVariants as matching
use Rattle.admission_match.specs.declared.trouble.Trouble.{Trouble}
use Rattle.admission_match.specs.declared.trouble.Trouble.TheVariants.{NoName, NotFound}
use Rattle.admission_documents.specs.Requests.{Request}
use Rattle.cluster_state.specs.Bindings.{Binding, ParamRef, binding_view}
pub use Rattle.cluster_state.specs.Bindings.{bindings_of}
use Rattle.cluster_state.specs.Items.{Item}
use Rattle.cluster_state.specs.Numbers.{IsNumbered}
use Rattle.cluster_state.specs.Objects.{Objects}
use Rattle.cluster_state.specs.Params.{KnownKind, NamespaceObject, known_kind_view, missing, namespace_labels, namespace_object, no_object, object, param_error_text, params_of}
use Rattle.cluster_state.specs.Policies.{BoundPolicy, policy_view}
unfoldable pub use Rattle.cluster_state.specs.Policies.{fails_closed}
use Rattle.cluster_state.specs.State.{ClusterState}
use Rattle.cluster_state.specs.declared.document.Document.{Document}
use Rattle.cluster_state.specs.declared.param_error.ParamError.{ParamError}
use Rattle.cluster_state.specs.declared.param_error.ParamError.TheVariants as params_error
use Rattle.cluster_state.specs.declared.param_error.ParamError.TheVariants.{ClusterScopedRequest, NeedlessNamespace, Memory}
use Rattle.cluster_plan.specs.Quotes.{go_quoted}
use Rattle.cluster_plan.specs.declared.asked_policy.AskedPolicy.{AskedPolicy as CodeAsked}
use Rattle.cluster_plan.specs.declared.step.Step.{Step as CodeStep}
use Rattle.cluster_plan.specs.declared.step.Step.TheVariants as code

-- why a policy is blocked: it is refused, or params of its kind cannot be found
pub data PolicyBlock : Type 0 where
  policy_refused : PolicyBlock
  unknown_kind : PolicyBlock

-- a step
pub data PlannedStep : Type 0 where
  -- a configuration error of the binding of this name, or else of the policy, denies the request
  denies : Option (List ℕ) → List ℕ → PlannedStep
  -- whether the policy or a binding matches is not known
  unknown_match : PlannedStep
  -- the policy is blocked
  is_blocked : PolicyBlock → PlannedStep
  -- the policy is evaluated with these params and this namespace, each null if it is none, and the binding tells its findings
  evaluates : Binding → Option json.Data → Option json.Data → PlannedStep
  -- the namespace of the request is not found, which ends the dispatch
  ends : PlannedStep

-- a bound policy, and the kind of its params, if it has one and it is known
pub record AskedPolicy : Type 0 where
  pub policy : BoundPolicy
  pub kind : Option KnownKind

-- ---- configuration errors

-- what the API server says of a namespace that is not there (apimachinery, NewNotFound)
unfoldable pub absent_text : List ℕ → List ℕ
absent_text name = concat (codes "namespaces " ∷ go_quoted name ∷ codes " not found" ∷ [])

-- what the API server says if the labels of the request's namespace are not known
abbrev pub trouble_text : Trouble → List ℕ → List ℕ
trouble_text NoName name = codes "Internal error occurred: resource name may not be empty"
trouble_text NotFound name = absent_text name

-- an error denies if the policy fails closed
abbrev pub error_steps : Bool → Option (List ℕ) → List ℕ → List PlannedStep
error_steps true binding message = denies binding message ∷ []
error_steps false binding message = []

-- ---- a binding that matches

abbrev pub found_params : Result (List json.Data) ParamError → Result (List (Option json.Data)) ParamError
found_params (Ok ds) = Ok (map Some ds)
found_params (Err e) = Err e

-- the params of an evaluation each: null alone if the policy has no kind of params or the binding no reference to them
abbrev pub params_for : Objects → Option KnownKind → Option ParamRef → List ℕ → Result (List (Option json.Data)) ParamError
params_for objects None r own = Ok (None ∷ [])
params_for objects (Some k) None own = Ok (None ∷ [])
params_for objects (Some k) (Some r) own = found_params (params_of objects k r own)

-- an evaluation with each of these params; a namespace that is not there ends the dispatch, also if there are no params
abbrev pub evaluations : Binding → NamespaceObject → List (Option json.Data) → List PlannedStep
evaluations b missing params = ends ∷ []
evaluations b no_object params = map (λ p. evaluates b p None) params
evaluations b (object d) params = map (λ p. evaluates b p (Some d)) params

-- by the params
abbrev pub params_steps : Bool → Binding → NamespaceObject → Result (List (Option json.Data)) ParamError → List PlannedStep
params_steps fails b namespace (Ok params) = evaluations b namespace params
params_steps fails b namespace (Err e) = error_steps fails (Some b.name) (param_error_text e)

abbrev pub matched_steps : ClusterState → AskedPolicy → Request → Binding → List PlannedStep
matched_steps s p q b =
    params_steps (fails_closed p.policy.document) b (namespace_object s.objects q.kind q.attributes.namespace)
    (params_for s.objects p.kind b.param_ref q.attributes.namespace)

-- by whether the binding matches
abbrev pub binding_answered : ClusterState → AskedPolicy → Request → Binding → Answer → List PlannedStep
binding_answered s p q b matching.No = []
binding_answered s p q b matching.Unknown = unknown_match ∷ []
binding_answered s p q b (matching.Trouble t) =
    error_steps (fails_closed p.policy.document) (Some b.name) (trouble_text t q.attributes.namespace)
binding_answered s p q b matching.Yes = matched_steps s p q b

abbrev pub binding_steps : ClusterState → AskedPolicy → Request → Binding → List PlannedStep
binding_steps s p q b = binding_answered s p q b (match_answer b.resources (namespace_labels s.objects) q.attributes)

-- ---- a policy

-- the steps of each binding of the policy among these
abbrev pub bindings_steps : ClusterState → AskedPolicy → Request → List Binding → List (List PlannedStep)
bindings_steps s p q bs = map (binding_steps s p q) (bindings_of p.policy.name bs)

-- a policy that is blocked is not asked
abbrev pub by_block : ClusterState → AskedPolicy → Request → Option PolicyBlock → List (List PlannedStep)
by_block s p q (Some b) = (is_blocked b ∷ []) ∷ []
by_block s p q None = bindings_steps s p q s.bindings

-- by whether its constraints match
abbrev pub policy_answered : ClusterState → AskedPolicy → Option PolicyBlock → Request → Answer → List (List PlannedStep)
policy_answered s p block q matching.No = []
policy_answered s p block q matching.Unknown = (unknown_match ∷ []) ∷ []
policy_answered s p block q (matching.Trouble t) =
    error_steps (fails_closed p.policy.document) None (trouble_text t q.attributes.namespace) ∷ []
policy_answered s p block q matching.Yes = by_block s p q block

-- the steps of a policy with a request, by why it is blocked, if it is: those of each of its bindings, or else its own alone
abbrev pub policy_steps : ClusterState → AskedPolicy → Option PolicyBlock → Request → List (List PlannedStep)
policy_steps s p block q =
    policy_answered s p block q (match_answer p.policy.constraints (namespace_labels s.objects) q.attributes)

-- ---- the code's

-- the params are found, or the first error; or an allocation failed
abbrev pub FindsParams : Result (List (Option json.Data)) ParamError → Result (Vec (Option Document) Global) ParamError → Type 0
FindsParams due (Ok v) = due ≡ Ok (map (option_map (λ d. view d.value.now)) v.items)
FindsParams due (Err ClusterScopedRequest) = due ≡ Err ClusterScopedRequest
FindsParams due (Err NeedlessNamespace) = due ≡ Err NeedlessNamespace
FindsParams due (Err params_error.NotFound) = due ≡ Err params_error.NotFound
FindsParams due (Err Memory) = Unit {0}

abbrev pub asked_view : CodeAsked → AskedPolicy
asked_view p = record { policy = policy_view p.policy.now; kind = option_map known_kind_view p.kind }

abbrev pub step_view : CodeStep → PlannedStep
step_view (code.Denial binding message) = denies (option_map (λ s. s.now) binding) (string_bytes message)
step_view code.UnknownMatch = unknown_match
step_view (code.Evaluation binding params namespace) =
    evaluates (binding_view binding.now) (option_map (λ d. view d.value.now) params) (option_map (λ d. view d.value.now) namespace)
step_view code.NamespaceNotFound = ends

-- the document has the number of its item, if there is one
abbrev pub IsNumberedIf : List Item → Option Document → Type 0
IsNumberedIf is d = IfSome d (IsNumbered is)

-- the params and the namespace of an evaluation
abbrev pub step_documents : CodeStep → Option Document × Option Document
step_documents (code.Evaluation binding params namespace) = (params, namespace)
step_documents (code.Denial binding message) = (None, None)
step_documents code.UnknownMatch = (None, None)
step_documents code.NamespaceNotFound = (None, None)

-- they have the numbers of their items
abbrev pub IsNumberedStep : List Item → CodeStep → Type 0
IsNumberedStep is s = IsNumberedIf is (step_documents s).0 × IsNumberedIf is (step_documents s).1
