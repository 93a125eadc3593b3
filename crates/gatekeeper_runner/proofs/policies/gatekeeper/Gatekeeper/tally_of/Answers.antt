-- Proof obligations of `policies::gatekeeper::Gatekeeper::tally_of`.
use Rattle.gatekeeper_runner.proofs.Prelude.{[], refl, gatekeeper_of}
use Rattle.gatekeeper_runner.proofs.OfPolicies.Gates.{tallied_all, tallied_more}
use Rattle.gatekeeper_runner.proofs.policies.gatekeeper.Gatekeeper.tally_of.Goals as goal

pub loop-gate-init : goal.loop-gate-init
loop-gate-init c policies asked review uid are given = record { results = []; of_policies = refl; are = tt; tallied = c.new-tally.ensures }

pub loop-gate-preserved : goal.loop-gate-preserved
loop-gate-preserved c policies asked review uid are given =
    tallied_more (gatekeeper_of policies c.args.self.now) review asked _ are _ _ (c.loop-gate.invariant policies asked review uid are given)
    c.gate-item.result c.loop-gate-test.true c.gate-item.is _ _
    (λ p of. c.rejection_by-said.ensures policies p review uid of
    (record { values_are = rw (c.in_ok-copy.ensures.values, c.in_ok-copy.ensures.charge) given.values_are; uid_is = given.uid_is }))
    (c.in_ok-tally.ensures uid)

pub returns : goal.returns
returns c policies asked review uid are given =
    tallied_all (gatekeeper_of policies c.args.self.now) review asked _ are _ _ (c.loop-gate.invariant policies asked review uid are given) c.loop-gate-test.false
