-- Proof obligations of `policy_run::PolicyRun::run_bindings`.
use Rattle.cluster_gate.proofs.Prelude.{List, IfOk-weaker, asked_policy, asked_view, binding_steps, refl, request_view, state_view, subst, AddsBindings, PlannedStep}
use Rattle.cluster_gate.proofs.Asked.{bound_steps}
use Rattle.cluster_gate.proofs.Runs.{steps_of_bindings}
use Rattle.cluster_gate.proofs.policy_run.PolicyRun.run_bindings.Goals as goal

pub returns : goal.returns
returns c =
    IfOk-weaker c.run_each.result _ _
    (λ ended h language s p state asked of.
    subst (λ (all : List (List PlannedStep)). AddsBindings language p c.args.self.now all c.args.events.now c.run_each.new.events ended)
    (bound_steps language s (state_view c.args.state.now) (asked_view c.args.asked.now) (asked_policy s p) (request_view c.args.self.now.case.now.request.now) _ state asked
    (steps_of_bindings language (binding_steps (state_view c.args.state.now) (asked_view c.args.asked.now) (request_view c.args.self.now.case.now.request.now)) _ _ _
    refl c.in_ok-bindings.ensures))
    (h language p of))
    c.run_each.ensures
