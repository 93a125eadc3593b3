-- The events of some steps, and the answers by them, worked by hand.
use Rattle.std.specs.Prelude.{◌≡◌, ℕ, Bool, true, false, List, [], ◌∷◌, ◌++◌, Some, None, Ok, Err, codes}
use Rattle.serde_json.specs.Data as json
use Rattle.policy_glue.specs.declared.reason.Reason.TheVariants.{Forbidden}
use Rattle.admission.specs.declared.run_error.RunError.TheVariants.{OutOfReads, OutOfSteps}
use Rattle.admission_documents.specs.Matching.{match_all}
use Rattle.admission_documents.specs.Requests.{Request}
use Rattle.cluster_state.specs.Params.{param_error_text}
use Rattle.cluster_state.specs.Policies.{BoundPolicy}
use Rattle.cluster_state.specs.declared.action.Action.TheVariants.{Deny}
use Rattle.cluster_state.specs.declared.param_error.ParamError.TheVariants.{ClusterScopedRequest}
use Rattle.cluster_plan.specs.Steps.{PlannedStep, absent_text, denies, ends, evaluates, is_blocked, policy_refused, unknown_match}
use Rattle.cluster_response.specs.Events as event
use Rattle.cluster_response.specs.Events.{Event, configuration_event}
use Rattle.cluster_response.specs.Response.{cluster_response}
use Rattle.cluster_response.specs.Rows.{bound, denied_by_m, found, pods, request_on, reviewed, web}
use Rattle.cluster_response.specs.declared.cluster_refusal.ClusterRefusal.{ClusterRefusal}
use Rattle.cluster_response.specs.declared.cluster_refusal.ClusterRefusal.TheVariants as refusal
use Rattle.cluster_gate.specs.Dispatch.{FindsWith, RunsBindings, RunsSteps, undecided_event}

-- a policy that finds its params as a message; with null as params it reads too much, without params it does not end in
-- its steps
abbrev pub finds_params : FindsWith
finds_params (Some (json.string t)) namespace result = result ≡ Ok (found 0 t Forbidden ∷ [])
finds_params (Some json.null) namespace result = result ≡ Err OutOfReads
finds_params _ namespace result = result ≡ Err OutOfSteps

-- the policy p, under Fail
abbrev pub the_policy : BoundPolicy
the_policy = record { name = codes "p"; document = json.object json.no_members; constraints = match_all; param_kind = None }

-- these steps of the policy under a binding have these events, and end the dispatch or not
abbrev pub Runs : List PlannedStep → List Event → Bool → Type 0
Runs steps es ended = RunsSteps the_policy finds_params steps es ended

-- likewise the steps of several bindings
abbrev pub RunsEach : List (List PlannedStep) → List Event → Bool → Type 0
RunsEach steps es ended = RunsBindings the_policy finds_params steps es ended

-- the policy does not decide
abbrev pub undecided_by : ClusterRefusal → Event
undecided_by r = undecided_event the_policy r

-- an evaluation with this text as params, by the binding b with the action Deny
abbrev pub evaluation : List ℕ → PlannedStep
evaluation t = evaluates (bound (Deny ∷ [])) (Some (json.string t)) None

abbrev pub endless : PlannedStep
endless = evaluates (bound (Deny ∷ [])) None None

abbrev pub reads_much : PlannedStep
reads_much = evaluates (bound (Deny ∷ [])) (Some json.null) None

-- a denial with this message
abbrev pub denial : List ℕ → Event
denial t = event.denies (record { policy = codes "p"; binding = Some (codes "b"); message = t; reason = Forbidden })

-- an error of the policy
abbrev pub an_error : PlannedStep
an_error = denies None (codes "e")

abbrev pub its_event : Event
its_event = configuration_event (codes "p") None (codes "e")

pub record EventRowsHold : Type 0 where
  pub no_steps : Runs [] [] false
  pub two_params : Runs (evaluation (codes "m") ∷ evaluation (codes "n") ∷ []) (denial (codes "m") ∷ denial (codes "n") ∷ []) false
  pub denial_then_refusal : Runs (evaluation (codes "m") ∷ unknown_match ∷ [])
      (denial (codes "m") ∷ undecided_by refusal.UnknownMatch ∷ []) false
  pub error_then_refusal : Runs (an_error ∷ endless ∷ []) (its_event ∷ undecided_by refusal.OutOfSteps ∷ []) false
  -- a refusal is the last step of its binding, and ends neither the policy nor the dispatch
  pub refusal_before_denial : Runs (endless ∷ evaluation (codes "m") ∷ []) (undecided_by refusal.OutOfSteps ∷ []) false
  pub unknown_before_error : Runs (unknown_match ∷ an_error ∷ []) (undecided_by refusal.UnknownMatch ∷ []) false
  pub blocked_before_error : Runs (is_blocked policy_refused ∷ an_error ∷ []) (undecided_by refusal.PolicyRefused ∷ []) false
  pub next_binding_after_refusal : RunsEach ((endless ∷ []) ∷ (evaluation (codes "m") ∷ []) ∷ [])
      (undecided_by refusal.OutOfSteps ∷ denial (codes "m") ∷ []) false
  pub next_binding_after_unknown : RunsEach ((unknown_match ∷ []) ∷ [] ∷ (evaluation (codes "m") ∷ []) ∷ [])
      (undecided_by refusal.UnknownMatch ∷ denial (codes "m") ∷ []) false
  pub other_params_of_binding : RunsEach ((endless ∷ evaluation (codes "m") ∷ []) ∷ (evaluation (codes "n") ∷ []) ∷ [])
      (undecided_by refusal.OutOfSteps ∷ denial (codes "n") ∷ []) false
  pub next_binding_after_reads : RunsEach ((reads_much ∷ evaluation (codes "m") ∷ []) ∷ (evaluation (codes "n") ∷ []) ∷ [])
      (undecided_by refusal.OutOfReads ∷ denial (codes "n") ∷ []) false
  pub not_found_after_refusal : RunsEach ((endless ∷ []) ∷ (ends ∷ []) ∷ (evaluation (codes "m") ∷ []) ∷ [])
      (undecided_by refusal.OutOfSteps ∷ event.ends ∷ []) true
  -- a namespace that is not found ends the dispatch
  pub not_found_before_denial : Runs (ends ∷ evaluation (codes "m") ∷ []) (event.ends ∷ []) true
  pub not_found_after_error : Runs (an_error ∷ ends ∷ []) (its_event ∷ event.ends ∷ []) true

-- ---- answers

-- the request u1 on a pod, and on a node
abbrev pub web_pod : Request
web_pod = request_on pods (codes "web") None

abbrev pub a_node : Request
a_node = request_on (record { group = []; version = codes "v1"; resource = codes "nodes" }) (codes "n") None

abbrev pub invalid : List ℕ → List ℕ
invalid message = reviewed
    (codes "{\"allowed\":false,\"status\":{\"code\":422,\"message\":\"" ++ (message ++ codes "\",\"reason\":\"Invalid\"},\"uid\":\"u1\"}"))

pub record EventAnswersHold : Type 0 where
  pub first_params : cluster_response web (codes "u1") (denial (codes "m") ∷ denial (codes "n") ∷ []) ≡ reviewed denied_by_m
  pub denial_before_refusal :
      cluster_response web (codes "u1") (denial (codes "m") ∷ undecided_by refusal.UnknownMatch ∷ []) ≡ reviewed denied_by_m
  pub refusal_before_denial_of_another :
      cluster_response web (codes "u1") (undecided_by refusal.UnknownMatch ∷ denial (codes "m") ∷ []) ≡ reviewed denied_by_m
  pub no_labels : cluster_response web_pod (codes "u1") (configuration_event (codes "p") None (absent_text (codes "gone")) ∷ [])
      ≡ invalid (codes "pods \\\"web\\\" is forbidden: ValidatingAdmissionPolicy 'p' denied request: failed to configure policy: namespaces \\\"gone\\\" not found")
  pub params_of_a_node : cluster_response a_node (codes "u1")
      (configuration_event (codes "p") (Some (codes "b")) (param_error_text ClusterScopedRequest) ∷ [])
      ≡ invalid (codes "nodes \\\"n\\\" is forbidden: ValidatingAdmissionPolicy 'p' with binding 'b' denied request: failed to configure binding: cannot use namespaced paramRef in policy binding that matches cluster-scoped resources")
