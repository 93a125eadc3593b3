-- Proof obligations of `policy_run::PolicyRun::evaluate`.
use Rattle.cluster_gate.proofs.Prelude.{IfOk-weaker, option_map, view}
use Rattle.cluster_state.specs.Bindings.{binding_view}
use Rattle.cluster_gate.proofs.Runs.{found_step, refused_step}
use Rattle.cluster_gate.proofs.policy_run.PolicyRun.evaluate.Goals as goal

pub returns-in_ok-add_findings-in-Ok : goal.returns-in_ok-add_findings-in-Ok
returns-in_ok-add_findings-in-Ok c language p of =
    found_step language p c.args.self.now of c.args.events.now c.add_findings.new.self (binding_view c.args.binding.now) (option_map (λ d. view d.value.now) c.args.params) (option_map (λ d. view d.value.now) c.args.namespace)
    _ c.in-Ok.findings.items c.as_slice.ensures.value c.in_ok-add_findings-in-Ok.ensures (rw (c.in-Ok.is, c.value_of-params.ensures, c.value_of-namespace.ensures) at (c.in_ok-findings.ensures language p of.gate))

pub returns-in-Err : goal.returns-in-Err
returns-in-Err c =
    IfOk-weaker c.refuse.result _ _
    (λ progress h language p of.
    refused_step language p c.args.self.now of c.args.events.now c.refuse.new.events (binding_view c.args.binding.now) (option_map (λ d. view d.value.now) c.args.params) (option_map (λ d. view d.value.now) c.args.namespace)
    progress _ h (rw (c.in-Err.is, c.value_of-params.ensures, c.value_of-namespace.ensures) at (c.in_ok-findings.ensures language p of.gate)))
    c.refuse.ensures
