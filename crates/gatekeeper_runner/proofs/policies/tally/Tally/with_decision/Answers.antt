-- Proofs of `policies::tally::Tally::with_decision`: the result meets the contract.

use Rattle.gatekeeper_runner.proofs.Prelude.{refl}
use Rattle.gatekeeper_runner.proofs.OfPolicies.Tallies.{adds_decision}
use Rattle.gatekeeper_runner.proofs.policies.tally.Tally.with_decision.Goals as goal

pub returns : goal.returns
returns c uid = record {
  no_memory = λ same. cc;
  adds = λ results policy of is. adds_decision results policy _ _ is _ c.in_ok-and_also.ensures refl;
}
