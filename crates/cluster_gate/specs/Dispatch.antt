-- What a cluster decides about a review (Kubernetes, dispatch of ValidatingAdmissionPolicies).
use Rattle.std.specs.Prelude.{◌≡◌, ℕ, Bool, true, false, List, [], ◌∷◌, ◌++◌, Option, Some, None, Result, Ok, Err, option_and_then, option_map, if◌then◌else◌}
use Rattle.serde_json.specs.Data as json
use Rattle.value_store.specs.Documents.{document_of}
use Rattle.value_store.specs.Reviews.{request_of, uid_in}
use Rattle.policy_glue.specs.Findings.{PolicyFinding}
use Rattle.admission_match.specs.Requests.{is_exempt}
use Rattle.admission_documents.specs.Requests.{Request, request_in}
use Rattle.cluster_state.specs.Bindings.{Binding}
use Rattle.cluster_state.specs.Policies.{BoundPolicy}
use Rattle.cluster_state.specs.State.{ClusterState}
use Rattle.cluster_plan.specs.Steps as plan
use Rattle.cluster_plan.specs.Steps.{PlannedStep, PolicyBlock, fails_closed, policy_steps}
use Rattle.admission.specs.Deciding.{Documents}
use Rattle.admission.specs.Findings.{FindsReview}
use Rattle.admission.specs.Standing.{Images, RunAgrees}
use Rattle.admission.specs.declared.language.Language.{Language}
use Rattle.admission.specs.declared.limits.Limits.{Limits}
use Rattle.admission.specs.declared.run_error.RunError.{RunError}
use Rattle.admission.specs.declared.run_error.RunError.TheVariants as run_error
use Rattle.cluster_response.specs.Events.{Event, configuration_event, findings_events}
use Rattle.cluster_response.specs.Events as event
use Rattle.cluster_response.specs.Response.{cluster_response}
use Rattle.cluster_response.specs.declared.cluster_refusal.ClusterRefusal.{ClusterRefusal}
use Rattle.cluster_response.specs.declared.cluster_refusal.ClusterRefusal.TheVariants as refusal
use Rattle.cluster_gate.specs.Gates.{IsJudged, asked_policy, block_of}
use Rattle.cluster_gate.specs.CompiledDocuments.{compiled_document}
use Rattle.cluster_gate.specs.Texts.{IsJsonTextOf, IsJsonTextIf}
use Rattle.cluster_gate.specs.declared.block_cause.BlockCause.{BlockCause}

-- ---- requests

-- the document of a review's request
abbrev pub request_document : json.Data → Option json.Data
request_document d = option_map json.object (request_of d)

-- the request of a review, if it is one and each of the request's fields has the right form
unfoldable pub request_given : List ℕ → Option Request
request_given review = option_and_then request_in (option_and_then request_document (document_of review))

-- the policies that are asked about a request
abbrev pub policies_asked : ClusterState → Request → List BoundPolicy
policies_asked s q = if is_exempt q.attributes.resource then [] else s.policies

-- ---- refusals

-- the refusal that reports a blocked policy
abbrev pub block_refusal : PolicyBlock → ClusterRefusal
block_refusal plan.policy_refused = refusal.PolicyRefused
block_refusal plan.unknown_kind = refusal.UnknownParamKind

-- the refusal that reports a refused evaluation; there is none if an allocation failed
abbrev pub error_refusal : RunError → Option ClusterRefusal
error_refusal (run_error.PolicyRefused e) = Some refusal.PolicyRefused
error_refusal run_error.ReviewRefused = Some refusal.ReviewRefused
error_refusal run_error.NamespaceOrParamsRefused = Some refusal.NamespaceOrParamsRefused
error_refusal run_error.OutOfSteps = Some refusal.OutOfSteps
error_refusal run_error.OverLimit = Some refusal.OverLimit
error_refusal run_error.OutOfReads = Some refusal.OutOfReads
error_refusal run_error.Memory = None

-- the policy does not decide
abbrev pub undecided_event : BoundPolicy → ClusterRefusal → Event
undecided_event p r = event.refuses (record { policy = p.name; fails_closed = fails_closed p.document; refusal = r })

-- ---- evaluations

-- what a policy finds with these params and this namespace, each null if there is none, or why it does not decide
abbrev pub FindsWith : Type 1
FindsWith = Option json.Data → Option json.Data → Result (List PolicyFinding) RunError → Type 0

-- ---- steps

-- the events of the steps of a policy under one of its bindings, and whether they end the dispatch. A step that refuses is
-- the binding's last
pub data RunsSteps (p : BoundPolicy) (finds : FindsWith) : List PlannedStep → List Event → Bool → Type 0 where
  no_steps : RunsSteps p finds [] [] false
  denied : {binding : Option (List ℕ)} {message : List ℕ} {steps : List PlannedStep} {es : List Event} {ended : Bool}
      → RunsSteps p finds steps es ended
      → RunsSteps p finds (plan.denies binding message ∷ steps) (configuration_event p.name binding message ∷ es) ended
  not_known : {steps : List PlannedStep}
      → RunsSteps p finds (plan.unknown_match ∷ steps) (undecided_event p refusal.UnknownMatch ∷ []) false
  blocked : {b : PolicyBlock} {steps : List PlannedStep}
      → RunsSteps p finds (plan.is_blocked b ∷ steps) (undecided_event p (block_refusal b) ∷ []) false
  found : {b : Binding} {params namespace : Option json.Data} {fs : List PolicyFinding} {steps : List PlannedStep} {es : List Event}
      {ended : Bool} → finds params namespace (Ok fs) → RunsSteps p finds steps es ended
      → RunsSteps p finds (plan.evaluates b params namespace ∷ steps) (findings_events p.name b fs ++ es) ended
  refused : {b : Binding} {params namespace : Option json.Data} {e : RunError} {r : ClusterRefusal} {steps : List PlannedStep}
      → finds params namespace (Err e) → error_refusal e ≡ Some r
      → RunsSteps p finds (plan.evaluates b params namespace ∷ steps) (undecided_event p r ∷ []) false
  at_end : {steps : List PlannedStep} → RunsSteps p finds (plan.ends ∷ steps) (event.ends ∷ []) true

-- the events of a policy by the steps of each of its bindings, one binding after another, and whether they end the
-- dispatch. A binding that refuses does not end its policy
pub data RunsBindings (p : BoundPolicy) (finds : FindsWith) : List (List PlannedStep) → List Event → Bool → Type 0 where
  no_bindings : RunsBindings p finds [] [] false
  next_binding : {steps : List PlannedStep} {others : List (List PlannedStep)} {es more : List Event} {ended : Bool}
      → RunsSteps p finds steps es false → RunsBindings p finds others more ended
      → RunsBindings p finds (steps ∷ others) (es ++ more) ended
  last_binding : {steps : List PlannedStep} {others : List (List PlannedStep)} {es : List Event} → RunsSteps p finds steps es true
      → RunsBindings p finds (steps ∷ others) es true

-- ---- the dispatch

-- The policies are read in this language.
module _ (l : Language) where
  -- what the policy finds against the request of a review, if its program runs within these limits
  pub record EvaluatesPolicy (chosen : Images) (review : List ℕ) (limits : Limits) (p : BoundPolicy) (params namespace : Option json.Data)
      (result : Result (List PolicyFinding) RunError) : Type 0 where
    pub documents : Documents
    pub language : documents.language ≡ l
    pub policy : IsJsonTextOf (compiled_document p.document) documents.policy
    pub review_is : documents.review ≡ review
    pub namespace_text : IsJsonTextIf namespace documents.namespace
    pub params_text : IsJsonTextIf params documents.params
    pub finds : FindsReview documents limits result
    pub runs : RunAgrees chosen documents limits result

  -- the events of one policy, and whether they end the dispatch
  pub record AsksPolicy (chosen : Images) (s : ClusterState) (review : List ℕ) (limits : Limits) (q : Request) (p : BoundPolicy)
      (es : List Event) (ended : Bool) : Type 0 where
    pub cause : Option BlockCause
    pub judged : IsJudged l s p cause
    pub runs : RunsBindings p (EvaluatesPolicy chosen review limits p)
        (policy_steps s (asked_policy s p) (option_map block_of cause) q) es ended

  -- the events of policies, one after another
  pub data Dispatches (chosen : Images) (s : ClusterState) (review : List ℕ) (limits : Limits) (q : Request) : List BoundPolicy
      → List Event → Type 0 where
    no_policies : Dispatches chosen s review limits q [] []
    next : {p : BoundPolicy} {ps : List BoundPolicy} {es more : List Event} → AsksPolicy chosen s review limits q p es false
        → Dispatches chosen s review limits q ps more → Dispatches chosen s review limits q (p ∷ ps) (es ++ more)
    last : {p : BoundPolicy} {ps : List BoundPolicy} {es : List Event} → AsksPolicy chosen s review limits q p es true
        → Dispatches chosen s review limits q (p ∷ ps) es

  -- the text that answers a review, which depends on the state and the review alone; none for bytes that are no review
  pub data DecidesInCluster (chosen : Images) (s : ClusterState) (review : List ℕ) (limits : Limits) : Option (List ℕ) → Type 0 where
    no_review : request_given review ≡ None → DecidesInCluster chosen s review limits None
    decided : {q : Request} {es : List Event} → request_given review ≡ Some q → Dispatches chosen s review limits q (policies_asked s q) es
        → DecidesInCluster chosen s review limits (Some (cluster_response q (uid_in review) es))
