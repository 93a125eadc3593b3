-- Proofs of `policies::tally::Tally::with`: the result meets the contract.

use Rattle.gatekeeper_runner.proofs.Prelude.{Err, IfOk-weaker}
use Rattle.gatekeeper_runner.specs.Policies.Tally.{AddsResult}
use Rattle.gatekeeper_runner.specs.Refusals.{label_view}
use Rattle.gatekeeper_runner.proofs.policies.tally.Tally.with.Goals as goal

pub returns-in-Ok : goal.returns-in-Ok
returns-in-Ok c = rw c.in-Ok.is c.with_decision.ensures

pub returns-in-Err : goal.returns-in-Err
returns-in-Err c =
    rw c.in-Err.is
    (IfOk-weaker c.with_refusal.result (AddsResult (label_view c.args.label.now) (Err c.in-Err.error) c.args.self) _ (λ after adds uid. adds) c.with_refusal.ensures)
