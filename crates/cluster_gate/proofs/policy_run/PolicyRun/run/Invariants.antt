-- Loop invariants of `policy_run::PolicyRun::run`.
use Rattle.cluster_gate.proofs.Prelude.{drop, map, step_view, AddedBefore, BoundPolicy, IsRunOf}
use Rattle.cluster_gate.proofs.policy_run.PolicyRun.run.Given as goal
use Rattle.admission.specs.declared.language.Language.{Language}

abbrev pub invariant-loop-step : goal.invariant-loop-step
invariant-loop-step l = (language : Language) (p : BoundPolicy) → IsRunOf language p l.self
    → AddedBefore language p l.self (map step_view l.steps) (map step_view (drop l.step-index l.steps)) l.fn.events l.events
