-- The names that these proofs cite of the library and of the definitions here. Declares nothing.
pub use Rattle.std.proofs.Common.{◌≡◌, ◌∙◌, ◌+◌, ◌<◌, ◌≤◌, ◌++◌, ◌∷◌, ℕ, zero, suc, List, [], Bool, true, false, Option, Some, None, Result, Ok, Err, Vec, Global, ap, append-nil, append_assoc, arith, drop, get_or, length, map, refl, rules, string_bytes, subst, sym, take}
pub use Rattle.std.proofs.lemmas.Result.{IfOk-weaker}
pub use Rattle.std.specs.Prelude.{option_map, option_and_then}
pub use Rattle.serde_json.specs.View.{view}
pub use Rattle.policy_glue.specs.OneImage.{OneImage}
pub use Rattle.admission_documents.specs.Requests.{Request, request_view}
pub use Rattle.cluster_state.specs.Policies.{BoundPolicy, policy_view}
pub use Rattle.cluster_state.specs.State.{ClusterState, state_view}
pub use Rattle.cluster_plan.specs.Steps.{PlannedStep, asked_view, binding_steps, bindings_steps, by_block, policy_steps, step_view}
pub use Rattle.cluster_response.specs.Events.{Event, KeepsEvents}
pub use Rattle.cluster_response.specs.declared.events.Events.{Events as CodeEvents}
pub use Rattle.cluster_gate.specs.Dispatch.{AsksPolicy, Dispatches, RunsBindings, RunsSteps, policies_asked}
pub use Rattle.cluster_gate.specs.Gates.{AreGatesFor, IsAskedGate, IsClusterFor, IsGateFor, IsGateOfText, IsJudged, asked_policy, block_of}
pub use Rattle.cluster_gate.specs.Running.{AddedBefore, Adds, AddsBindings, AddsRun, AddsMatched, AddsPolicy, AddsStep, AddsSteps, AddsTrouble, AnswersCase, BoundBefore, GivesBefore, GivesEvents, IsRunOf, finds_of}
pub use Rattle.cluster_gate.specs.declared.policy_gate.PolicyGate.{PolicyGate}
pub use Rattle.cluster_gate.specs.declared.policy_run.PolicyRun.{PolicyRun}
pub use Rattle.cluster_gate.specs.declared.progress.Progress.TheVariants.{NextStep, NextBinding, End}
