-- Decisions of an API server that knows other resources, which it stores in the same place as the request's.
use Rattle.std.specs.Prelude.{◌≡◌, ℕ, Bool, true, false, List, [], ◌∷◌, ◌++◌, All, map, Option, Some, None, option_map}
use Rattle.std.specs.List.{list_any}
use Rattle.policy_glue.specs.OneImage.{OneImage}
use Rattle.admission.specs.Standing.{Images}
use Rattle.admission.specs.declared.language.Language.{Language}
use Rattle.admission.specs.declared.limits.Limits.{Limits}
use Rattle.admission_documents.specs.Requests.{Request}
use Rattle.admission_match.specs.Laws.{server_answer}
use Rattle.admission_match.specs.Matching.{MatchResources}
use Rattle.admission_match.specs.Requests.{GroupVersionResource}
use Rattle.admission_match.specs.Rules.{is_candidate}
use Rattle.admission_match.specs.declared.answer.Answer.{Answer}
use Rattle.admission_match.specs.declared.answer.Answer.TheVariants as matching
use Rattle.cluster_state.specs.Bindings.{Binding}
use Rattle.cluster_state.specs.Params.{namespace_labels}
use Rattle.cluster_state.specs.Policies.{BoundPolicy}
use Rattle.cluster_state.specs.State.{ClusterState}
use Rattle.cluster_plan.specs.Steps as plan
use Rattle.cluster_plan.specs.Steps.{AskedPolicy, PlannedStep, PolicyBlock, binding_answered, bindings_of, error_steps, fails_closed, trouble_text}
use Rattle.cluster_response.specs.Events.{Event}
use Rattle.cluster_response.specs.Laws.{is_refusal}
use Rattle.cluster_gate.specs.Dispatch.{Dispatches, EvaluatesPolicy, RunsBindings, policies_asked}
use Rattle.cluster_gate.specs.Gates.{IsJudged, asked_policy, block_of}
use Rattle.cluster_gate.specs.Laws.{HasShallowDocuments}
use Rattle.cluster_gate.specs.declared.block_cause.BlockCause.{BlockCause}

-- ---- the steps of a policy under each of its bindings, by the answers of its constraints and of the bindings

-- the answer of match resources
abbrev pub MatchAnswers : Type 0
MatchAnswers = MatchResources → Answer

abbrev pub binding_steps_by : MatchAnswers → ClusterState → AskedPolicy → Request → Binding → List PlannedStep
binding_steps_by answers s p q b = binding_answered s p q b (answers b.resources)

abbrev pub block_steps_by : MatchAnswers → ClusterState → AskedPolicy → Request → Option PolicyBlock → List (List PlannedStep)
block_steps_by answers s p q (Some b) = (plan.is_blocked b ∷ []) ∷ []
block_steps_by answers s p q None = map (binding_steps_by answers s p q) (bindings_of p.policy.name s.bindings)

abbrev pub answered_steps_by : MatchAnswers → ClusterState → AskedPolicy → Option PolicyBlock → Request → Answer
    → List (List PlannedStep)
answered_steps_by answers s p block q matching.No = []
answered_steps_by answers s p block q matching.Unknown = (plan.unknown_match ∷ []) ∷ []
answered_steps_by answers s p block q (matching.Trouble t) =
    error_steps (fails_closed p.policy.document) None (trouble_text t q.attributes.namespace) ∷ []
answered_steps_by answers s p block q matching.Yes = block_steps_by answers s p q block

abbrev pub policy_steps_by : MatchAnswers → ClusterState → AskedPolicy → Option PolicyBlock → Request → List (List PlannedStep)
policy_steps_by answers s p block q = answered_steps_by answers s p block q (answers p.policy.constraints)

-- ---- a server

-- the answers of a server that stores the resources `served` in the same place as the request's
abbrev pub server_answers : List GroupVersionResource → ClusterState → Request → MatchAnswers
server_answers served s q m = server_answer served m (namespace_labels s.objects) q.attributes

-- the events of one policy on that server, and whether they end the dispatch
pub record ServerAsksPolicy (l : Language) (served : List GroupVersionResource) (chosen : Images) (s : ClusterState) (review : List ℕ)
    (limits : Limits) (q : Request) (p : BoundPolicy) (es : List Event) (ended : Bool) : Type 0 where
  pub cause : Option BlockCause
  pub judged : IsJudged l s p cause
  pub runs : RunsBindings p (EvaluatesPolicy l chosen review limits p)
      (policy_steps_by (server_answers served s q) s (asked_policy s p) (option_map block_of cause) q) es ended

-- the events of policies, one after another
pub data ServerDispatches (l : Language) (served : List GroupVersionResource) (chosen : Images) (s : ClusterState) (review : List ℕ)
    (limits : Limits) (q : Request) : List BoundPolicy → List Event → Type 0 where
  no_policies : ServerDispatches l served chosen s review limits q [] []
  next : {p : BoundPolicy} {ps : List BoundPolicy} {es more : List Event} → ServerAsksPolicy l served chosen s review limits q p es false
      → ServerDispatches l served chosen s review limits q ps more
      → ServerDispatches l served chosen s review limits q (p ∷ ps) (es ++ more)
  last : {p : BoundPolicy} {ps : List BoundPolicy} {es : List Event} → ServerAsksPolicy l served chosen s review limits q p es true
      → ServerDispatches l served chosen s review limits q (p ∷ ps) es

-- if each policy decides, every server has the same events and so the same answer, for any resources that it may store
-- in the same place as the request's
abbrev pub EquivalentsAreFree : Type 0
EquivalentsAreFree = (l : Language) (served : List GroupVersionResource) (s : ClusterState) (review : List ℕ) (limits : Limits)
    (q : Request) (es fs : List Event) → HasShallowDocuments s → All (λ c. is_candidate q.attributes.resource c ≡ true) served
    → list_any is_refusal es ≡ false
    → Dispatches l OneImage s review limits q (policies_asked s q) es
    → ServerDispatches l served OneImage s review limits q (policies_asked s q) fs
    → fs ≡ es

-- if each policy decides, the server has these events
abbrev pub ServersHaveAnswers : Type 0
ServersHaveAnswers = (l : Language) (served : List GroupVersionResource) (s : ClusterState) (review : List ℕ) (limits : Limits)
    (q : Request) (es : List Event) → All (λ c. is_candidate q.attributes.resource c ≡ true) served → list_any is_refusal es ≡ false
    → Dispatches l OneImage s review limits q (policies_asked s q) es
    → ServerDispatches l served OneImage s review limits q (policies_asked s q) es
