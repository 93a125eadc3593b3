-- Proofs of `policies::tally::Tally::with_refusal`: the result meets the contract.

use Rattle.gatekeeper_runner.proofs.Prelude.{◌≡◌, Some, ap, refl}
use Rattle.admission.specs.declared.run_error.RunError.TheVariants.{Memory}
use Rattle.gatekeeper_runner.proofs.OfPolicies.Tallies.{adds_refusal}
use Rattle.gatekeeper_runner.proofs.policies.tally.Tally.with_refusal.Goals as goal

pub returns : goal.returns
returns c = record {
  no_memory = λ same. c.is_memory.ensures.no c.if-is_memory.false (let e : c.args.error ≡ Memory = cc in e);
  adds = λ results policy of is. adds_refusal results policy _ _ is _ _ of refl (ap Some c.in_ok-refused.ensures);
}
