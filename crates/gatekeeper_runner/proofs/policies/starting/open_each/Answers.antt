-- Proofs of `policies::starting::open_each`: the result meets the contract; the loop invariant holds at first and is kept.

use Rattle.gatekeeper_runner.proofs.Prelude.{◌∙◌, [], refl, is_err}
use Rattle.cli.specs.declared.refusal.Refusal.TheVariants.{Memory}
use Rattle.gatekeeper_runner.specs.declared.file_fault.FileFault.TheVariants as file_fault
use Rattle.gatekeeper_runner.specs.declared.start_refusal.StartRefusal.TheVariants.{Plain}
use Rattle.gatekeeper_runner.specs.Policies.Starting.{no_memory, none}
use Rattle.gatekeeper_runner.proofs.OfPolicies.Opened.{opened_more, unopened}
use Rattle.gatekeeper_runner.proofs.policies.starting.open_each.Goals as goal

pub loop-name-init : goal.loop-name-init
loop-name-init g c = record { opened = ([], rw c.new-gates.ensures.items tt, none); known = refl }

pub returns-in_err-gate-clause-gates : goal.returns-in_err-gate-clause-gates
returns-in_err-gate-clause-gates g c =
    rw (is_err c.from_residual.ensures.1)
    (unopened _ _ _ _ c.name-item.result _ c.loop-name-test.true c.name-item.is c.loop-name.invariant.opened _ (rw (c.as_str.ensures.value, c.loop-name.invariant.known) at c.in_err-gate.ensures.gate))

pub returns-in_err-push-clause-gates : goal.returns-in_err-push-clause-gates
returns-in_err-push-clause-gates g c =
    rw (is_err c.from_residual-in_err-push.ensures.1)
    (unopened _ _ _ _ c.name-item.result _ c.loop-name-test.true c.name-item.is c.loop-name.invariant.opened (Plain Memory) (record { fault = file_fault.Memory; has = no_memory; told = refl }))

pub loop-name-preserved : goal.loop-name-preserved
loop-name-preserved g c = record {
  opened = opened_more _ _ _ _ c.name-item.result _ c.loop-name-test.true c.name-item.is c.loop-name.invariant.opened _ c.in_ok-gate.gate
      (rw (c.as_str.ensures.value, c.loop-name.invariant.known) at c.in_ok-gate.ensures.gate) c.in_ok-push.ensures.items;
  known = c.in_ok-gate.ensures.known ∙ c.loop-name.invariant.known;
}
