-- Proof obligations of `policy_run::PolicyRun::run_step`.
use Rattle.cluster_gate.proofs.Prelude.{IfOk-weaker, ap, option_map, step_view, string_bytes, subst, sym, AddsStep, PlannedStep}
use Rattle.cluster_gate.proofs.Runs.{denied_step, end_step, unknown_step}
use Rattle.cluster_gate.specs.Beside.{HasKnownNamespace}
use Rattle.cluster_gate.proofs.policy_run.PolicyRun.run_step.Goals as goal

pub evaluate-requires : goal.evaluate-requires
evaluate-requires c = subst (HasKnownNamespace c.args.self.now.case.now.opened c.args.self.now.case.now.place) (ap step_view c.in-Evaluation.is) c.requires

pub returns-in_ok-add_configuration_error-in-Denial : goal.returns-in_ok-add_configuration_error-in-Denial
returns-in_ok-add_configuration_error-in-Denial c language p of =
    denied_step language p c.args.self.now of c.args.events.now c.add_configuration_error.new.self (step_view c.args.step.now) (option_map (λ s. s.now) c.in-Denial.binding) c.as_str.result.now (string_bytes c.in-Denial.message)
    (ap step_view c.in-Denial.is) c.as_str.ensures.value c.in_ok-add_configuration_error-in-Denial.ensures

pub returns-in-UnknownMatch : goal.returns-in-UnknownMatch
returns-in-UnknownMatch c =
    IfOk-weaker c.refuse.result _ _
    (λ progress h language p of. unknown_step language p c.args.self.now of c.args.events.now c.refuse.new.events (step_view c.args.step.now) progress (ap step_view c.in-UnknownMatch.is) h)
    c.refuse.ensures

pub returns-in-Evaluation : goal.returns-in-Evaluation
returns-in-Evaluation c =
    IfOk-weaker c.evaluate.result _ _
    (λ progress h language p of. subst (λ (x : PlannedStep). AddsStep language p c.args.self.now x c.args.events.now c.evaluate.new.events progress) (sym (ap step_view c.in-Evaluation.is)) (h language p of))
    c.evaluate.ensures

pub returns-in-NamespaceNotFound : goal.returns-in-NamespaceNotFound
returns-in-NamespaceNotFound c language p of =
    end_step language p c.args.self.now of c.args.events.now c.end.new.self (step_view c.args.step.now) (ap step_view c.in-NamespaceNotFound.is) c.end.ensures
