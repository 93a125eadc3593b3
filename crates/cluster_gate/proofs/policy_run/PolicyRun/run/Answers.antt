-- Proof obligations of `policy_run::PolicyRun::run`.
use Rattle.cluster_gate.proofs.KnownSteps.{all_at}
use Rattle.cluster_gate.proofs.Prelude.{◌+◌, drop, map, step_view}
use Rattle.cluster_gate.proofs.Runs.{added_end, added_last, added_step, at_last, at_step}
use Rattle.cluster_gate.specs.Beside.{HasKnownNamespace}
use Rattle.cluster_gate.proofs.policy_run.PolicyRun.run.Goals as goal

pub run_step-requires : goal.run_step-requires
run_step-requires c =
    all_at (HasKnownNamespace c.args.self.now.case.now.opened c.args.self.now.case.now.place) c.args.steps.now c.loop-step.step-index c.step-item.result
    c.loop-step-test.true c.step-item.is c.requires

pub returns-in-NextBinding : goal.returns-in-NextBinding
returns-in-NextBinding c language p of =
    added_last language p c.args.self.now (map step_view c.args.steps.now) c.args.events.now (step_view c.step-item.result)
    (map step_view (drop (c.loop-step.step-index + 1) c.args.steps.now)) c.loop-step.events c.run_step.new.events
    (at_step language p c.args.self.now c.args.steps.now c.loop-step.step-index c.args.events.now c.loop-step.events (c.loop-step.invariant language p of) c.step-item.result
    c.loop-step-test.true c.step-item.is)
    (rw c.in-NextBinding.is at (c.in_ok-run_step.ensures language p of))

pub returns-in-End : goal.returns-in-End
returns-in-End c language p of =
    added_end language p c.args.self.now (map step_view c.args.steps.now) c.args.events.now (step_view c.step-item.result)
    (map step_view (drop (c.loop-step.step-index + 1) c.args.steps.now)) c.loop-step.events c.run_step.new.events
    (at_step language p c.args.self.now c.args.steps.now c.loop-step.step-index c.args.events.now c.loop-step.events (c.loop-step.invariant language p of) c.step-item.result
    c.loop-step-test.true c.step-item.is)
    (rw c.in-End.is at (c.in_ok-run_step.ensures language p of))

pub loop-step-preserved : goal.loop-step-preserved
loop-step-preserved c language p of =
    added_step language p c.args.self.now (map step_view c.args.steps.now) c.args.events.now (step_view c.step-item.result)
    (map step_view (drop (c.loop-step.step-index + 1) c.args.steps.now)) c.loop-step.events c.run_step.new.events
    (at_step language p c.args.self.now c.args.steps.now c.loop-step.step-index c.args.events.now c.loop-step.events (c.loop-step.invariant language p of) c.step-item.result
    c.loop-step-test.true c.step-item.is)
    (rw c.in-NextStep.is at (c.in_ok-run_step.ensures language p of))

pub returns : goal.returns
returns c language p of =
    at_last language p c.args.self.now c.args.steps.now c.loop-step.step-index c.args.events.now c.loop-step.events (c.loop-step.invariant language p of) c.loop-step-test.false
