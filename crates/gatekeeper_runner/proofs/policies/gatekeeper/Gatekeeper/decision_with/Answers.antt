-- Proofs of `policies::gatekeeper::Gatekeeper::decision_with`: the result meets the contract.

use Rattle.gatekeeper_runner.proofs.Prelude.{gatekeeper_of, string_bytes}
use Rattle.gatekeeper_runner.proofs.OfPolicies.Gates.{all_decided, tallied_last}
use Rattle.gatekeeper_runner.proofs.policies.gatekeeper.Gatekeeper.decision_with.Goals as goal

pub returns : goal.returns
returns c policies review are given =
    let t = gatekeeper_of policies c.args.self.now in
    let uid = string_bytes c.args.uid in
    all_decided t review _ c.args.uid _ _ given
    (tallied_last t review _ _ are _ _
    (λ asked of. c.in_ok-first.ensures policies asked review uid of given) _
    (λ p of. c.rejection_by-said.ensures policies p review uid of given) (c.in_ok-all.ensures uid))
    c.ending.ensures
