-- Proofs of `policies::gatekeeper::Gatekeeper::rejection_by`: the result meets the contract.

use Rattle.gatekeeper_runner.proofs.Prelude.{of_one, gatekeeper_of, under}
use Rattle.gatekeeper_runner.proofs.policies.gatekeeper.Gatekeeper.rejection_by.Goals as goal

pub returns : goal.returns
returns c policies policy review uid of given =
    let d = under (gatekeeper_of policies c.args.self.now) policy review in (
      c.rejection_on.ensures.says d uid of.policy (record { contents = given.values_are; uid_is = given.uid_is }),
      of_one d _ _ _ _ _ _ of.policy.0 of.image
          (c.rejection_on.ensures.runs d uid of.policy (record { contents = given.values_are; uid_is = given.uid_is })),
    )
