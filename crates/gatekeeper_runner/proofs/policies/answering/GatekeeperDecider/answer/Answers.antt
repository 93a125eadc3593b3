-- Proof obligations of `policies::answering::GatekeeperDecider::answer`.
use Rattle.gatekeeper_runner.proofs.Prelude.{IfOk-weaker, gatekeeper_of}
use Rattle.gatekeeper_runner.proofs.OfPolicies.LineOnce.{line_decided}
use Rattle.gatekeeper_runner.proofs.policies.answering.GatekeeperDecider.answer.Goals as goal

pub returns : goal.returns
returns c =
    IfOk-weaker c.outcome_text.result _ _
    (λ text is policies are. line_decided (gatekeeper_of policies c.args.self.now) c.args.line.now text.items _ (c.in_ok-outcome.ensures.decides policies are) is) c.outcome_text.ensures
