-- Proof obligations of `policies::gatekeeper::Gatekeeper::decision_on`.
use Rattle.gatekeeper_runner.proofs.Prelude.{IfOk-weaker, gatekeeper_of}
use Rattle.gatekeeper_runner.proofs.OfPolicies.Gates.{all_decided, tallied_none}
use Rattle.gatekeeper_runner.proofs.policies.gatekeeper.Gatekeeper.decision_on.Goals as goal

pub returns-in-Some : goal.returns-in-Some
returns-in-Some c =
    IfOk-weaker c.decision_with.result _ _
    (λ r all policies review are. all policies review (rw (← c.deref.ensures.value, c.in-Some.ensures.cases.0) at are))
    c.decision_with.ensures

pub returns-in-None : goal.returns-in-None
returns-in-None c policies review are given =
    all_decided (gatekeeper_of policies c.args.self.now) review _ c.args.uid _ _ given
    (tallied_none (gatekeeper_of policies c.args.self.now) review _ _ are
    (rw c.deref.ensures.value at c.in-None.ensures.cases) c.new.ensures)
    c.ending.ensures
