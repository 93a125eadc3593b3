-- Proof obligations of `cluster::answering::ClusterKeeperDecider::answer`.
use Rattle.gatekeeper_runner.proofs.Prelude.{IfOk-weaker}
use Rattle.gatekeeper_runner.proofs.OfClusters.Decided.{cluster_decided}
use Rattle.gatekeeper_runner.proofs.cluster.answering.ClusterKeeperDecider.answer.Goals as goal

pub returns : goal.returns
returns c =
    IfOk-weaker c.decision_text.result _ _ (λ text is l s of. cluster_decided l s _ _ _ _ (c.in_ok-decision.ensures l s of) is) c.decision_text.ensures
