-- How the code runs the steps of policies.
use Rattle.std.specs.Prelude.{◌≡◌, ℕ, Bool, true, false, List, [], ◌∷◌, ◌++◌, map, option_map, Option, None, Some, Result, Ok, Err, Vec}
use Rattle.std.specs.declared.alloc.Global.{Global}
use Rattle.serde_json.specs.Data as json
use Rattle.policy_glue.specs.Findings.{finding_view}
use Rattle.policy_glue.specs.OneImage.{OneImage}
use Rattle.policy_glue.specs.declared.finding.Finding.{Finding}
use Rattle.admission.specs.Findings.{findings_view}
use Rattle.admission.specs.Standing.{Images}
use Rattle.admission.specs.declared.language.Language.{Language}
use Rattle.admission.specs.declared.limits.Limits.{Limits}
use Rattle.admission.specs.declared.run_error.RunError.{RunError}
use Rattle.admission_match.specs.declared.trouble.Trouble.{Trouble}
use Rattle.admission_documents.specs.Requests.{Request}
use Rattle.cluster_state.specs.Policies.{BoundPolicy, policy_view}
use Rattle.cluster_state.specs.State.{ClusterState}
use Rattle.cluster_plan.specs.Steps.{PlannedStep, bindings_steps, by_block, fails_closed, trouble_text}
use Rattle.cluster_response.specs.Events.{Event, KeepsEvents, configuration_event}
use Rattle.cluster_response.specs.Response.{cluster_response}
use Rattle.cluster_response.specs.declared.cluster_refusal.ClusterRefusal.{ClusterRefusal}
use Rattle.cluster_response.specs.declared.events.Events.{Events as CodeEvents}
use Rattle.cluster_gate.specs.Dispatch.{AsksPolicy, Dispatches, EvaluatesPolicy, FindsWith, RunsBindings, RunsSteps, error_refusal, policies_asked}
use Rattle.cluster_gate.specs.Gates.{IsAskedGate, IsJudged, asked_policy, block_of}
use Rattle.cluster_gate.specs.declared.block_cause.BlockCause.{BlockCause}
use Rattle.cluster_gate.specs.declared.policy_run.PolicyRun.{PolicyRun}
use Rattle.cluster_gate.specs.declared.progress.Progress.{Progress}
use Rattle.cluster_gate.specs.declared.progress.Progress.TheVariants.{NextStep, NextBinding, End}

-- ---- evaluations

-- the findings, or the refusal instead of them
abbrev pub HasFound : Result (Vec Finding Global) RunError → Result (Vec Finding Global) ClusterRefusal → Type 0
HasFound due (Ok fs) = findings_view due ≡ Ok (map finding_view fs.items)
HasFound due (Err r) = (e : RunError) × (findings_view due ≡ Err e) × (error_refusal e ≡ Some r)

-- ---- steps

-- these events are added
abbrev pub Adds : CodeEvents → CodeEvents → List Event → Type 0
Adds before after more = (es : List Event) → KeepsEvents before es → KeepsEvents after (es ++ more)

-- the events of a step, followed by those of other steps unless the binding or the dispatch ends
abbrev pub StepRuns : BoundPolicy → FindsWith → Progress → PlannedStep → List Event → Type 0
StepRuns p finds NextStep step fs = (steps : List PlannedStep) (es : List Event) (ended : Bool) → RunsSteps p finds steps es ended
    → RunsSteps p finds (step ∷ steps) (fs ++ es) ended
StepRuns p finds NextBinding step fs = (steps : List PlannedStep) → RunsSteps p finds (step ∷ steps) fs false
StepRuns p finds End step fs = (steps : List PlannedStep) → RunsSteps p finds (step ∷ steps) fs true

-- ---- policies

-- the event of an error, which denies if the policy fails closed
abbrev pub error_events : Bool → List ℕ → List ℕ → List Event
error_events true policy message = configuration_event policy None message ∷ []
error_events false policy message = []

-- the events of a policy are added if the labels of the request's namespace are not known
abbrev pub AddsTrouble : BoundPolicy → Request → Trouble → CodeEvents → CodeEvents → Type 0
AddsTrouble p q t before after =
    Adds before after (error_events (fails_closed p.document) p.name (trouble_text t q.attributes.namespace))

-- ---- policies in a language

-- The policies are read in this language.
module _ (l : Language) where
  -- what an evaluation finds, or the refusal instead
  abbrev pub FindsOrRefuses : Images → List ℕ → Limits → BoundPolicy → Option json.Data → Option json.Data
      → Result (Vec Finding Global) ClusterRefusal → Type 0
  FindsOrRefuses chosen review limits p params namespace (Ok fs) =
      EvaluatesPolicy l chosen review limits p params namespace (Ok (map finding_view fs.items))
  FindsOrRefuses chosen review limits p params namespace (Err r) =
      (e : RunError) × EvaluatesPolicy l chosen review limits p params namespace (Err e) × (error_refusal e ≡ Some r)

  -- the code's run is of this policy
  pub record IsRunOf (p : BoundPolicy) (run : PolicyRun) : Type 0 where
    pub policy : policy_view run.policy.now ≡ p
    pub gate : IsAskedGate l p run.gate.now

  -- what the policy of a run finds
  abbrev pub finds_of : BoundPolicy → PolicyRun → FindsWith
  finds_of p run params namespace result = EvaluatesPolicy l OneImage run.case.now.review.now run.case.now.limits p params namespace result

  -- the events of a step are added
  abbrev pub AddsStep : BoundPolicy → PolicyRun → PlannedStep → CodeEvents → CodeEvents → Progress → Type 0
  AddsStep p run step before after progress =
      (more : List Event) × Adds before after more × StepRuns p (finds_of p run) progress step more

  -- the events of steps are added
  abbrev pub AddsSteps : BoundPolicy → PolicyRun → List PlannedStep → CodeEvents → CodeEvents → Bool → Type 0
  AddsSteps p run steps before after ended =
      (more : List Event) × Adds before after more × RunsSteps p (finds_of p run) steps more ended

  -- the events of the first steps are added, and those of the others come after them
  abbrev pub AddedBefore : BoundPolicy → PolicyRun → List PlannedStep → List PlannedStep → CodeEvents → CodeEvents → Type 0
  AddedBefore p run all rest before now =
      (more : List Event) × Adds before now more
      × ((es : List Event) (ended : Bool) → RunsSteps p (finds_of p run) rest es ended
      → RunsSteps p (finds_of p run) all (more ++ es) ended)

  -- ---- bindings

  -- the events of bindings with these steps are added
  abbrev pub AddsBindings : BoundPolicy → PolicyRun → List (List PlannedStep) → CodeEvents → CodeEvents → Bool → Type 0
  AddsBindings p run all before after ended =
      (more : List Event) × Adds before after more × RunsBindings p (finds_of p run) all more ended

  -- the events of the first bindings are added, and those of the others come after them
  abbrev pub BoundBefore : BoundPolicy → PolicyRun → List (List PlannedStep) → List (List PlannedStep) → CodeEvents → CodeEvents → Type 0
  BoundBefore p run all rest before now =
      (more : List Event) × Adds before now more
      × ((es : List Event) (ended : Bool) → RunsBindings p (finds_of p run) rest es ended
      → RunsBindings p (finds_of p run) all (more ++ es) ended)

  -- ---- policies

  -- the events of a policy are added
  abbrev pub AddsPolicy : Images → ClusterState → List ℕ → Limits → Request → BoundPolicy → CodeEvents → CodeEvents → Bool → Type 0
  AddsPolicy chosen s review limits q p before after ended =
      (more : List Event) × Adds before after more × AsksPolicy l chosen s review limits q p more ended

  -- the events of a policy whose constraints match are added
  abbrev pub AddsMatched : Images → ClusterState → List ℕ → Limits → Request → BoundPolicy → CodeEvents → CodeEvents → Bool → Type 0
  AddsMatched chosen s review limits q p before after ended =
      (more : List Event) × Adds before after more
      × (cause : Option BlockCause) × IsJudged l s p cause
      × RunsBindings p (EvaluatesPolicy l chosen review limits p) (by_block s (asked_policy s p) q (option_map block_of cause)) more ended

  -- the events of the bindings of a run's policy are added
  abbrev pub AddsRun : ClusterState → Request → BoundPolicy → PolicyRun → CodeEvents → CodeEvents → Bool → Type 0
  AddsRun s q p run before after ended =
      AddsBindings p run (bindings_steps s (asked_policy s p) q s.bindings) before after ended

  -- the code keeps the events of these policies
  abbrev pub GivesEvents : Images → ClusterState → List ℕ → Limits → Request → List BoundPolicy → CodeEvents → Type 0
  GivesEvents chosen s review limits q ps e = (es : List Event) × KeepsEvents e es × Dispatches l chosen s review limits q ps es

  -- the code keeps the events of the first policies, and those of the others come after them
  abbrev pub GivesBefore : Images → ClusterState → List ℕ → Limits → Request → List BoundPolicy → List BoundPolicy → CodeEvents → Type 0
  GivesBefore chosen s review limits q all rest e =
      (es : List Event) × KeepsEvents e es
      × ((more : List Event) → Dispatches l chosen s review limits q rest more → Dispatches l chosen s review limits q all (es ++ more))

  -- the text is the answer to a request with this uid
  abbrev pub AnswersCase : Images → ClusterState → List ℕ → Limits → Request → List ℕ → List ℕ → Type 0
  AnswersCase chosen s review limits q uid text =
      (es : List Event) × Dispatches l chosen s review limits q (policies_asked s q) es × (text ≡ cluster_response q uid es)
