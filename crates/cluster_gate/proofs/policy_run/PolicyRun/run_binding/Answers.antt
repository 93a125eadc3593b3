-- Proof obligations of `policy_run::PolicyRun::run_binding`.
use Rattle.std.specs.List.{All}
use Rattle.cluster_state.specs.Bindings.{binding_view}
use Rattle.cluster_gate.specs.Beside.{HasKnownNamespace}
use Rattle.cluster_gate.proofs.KnownSteps.{steps_are_known}
use Rattle.cluster_gate.proofs.Prelude.{◌∙◌, List, sym, IfOk-weaker, ap, asked_view, map, request_view, state_view, step_view, subst, AddsSteps, PlannedStep}
use Rattle.cluster_gate.proofs.policy_run.PolicyRun.run_binding.Goals as goal

pub run-requires : goal.run-requires
run-requires c =
    let case = c.args.self.now.case.now in
    subst (All (HasKnownNamespace case.opened case.place)) (sym (ap (map step_view) c.as_slice.ensures.value ∙ c.in_ok-steps.ensures.steps))
    (steps_are_known case.opened case.place (state_view c.args.state.now) (asked_view c.args.asked.now) (request_view case.request.now) c.requires (binding_view c.args.binding.now))

pub returns : goal.returns
returns c =
    IfOk-weaker c.run.result _ _
    (λ ended h language p of.
    subst (λ (steps : List PlannedStep). AddsSteps language p c.args.self.now steps c.args.events.now c.run.new.events ended)
    (ap (map step_view) c.as_slice.ensures.value ∙ c.in_ok-steps.ensures.steps)
    (h language p of))
    c.run.ensures
