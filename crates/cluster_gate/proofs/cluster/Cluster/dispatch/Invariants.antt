-- Loop invariants of `cluster::Cluster::dispatch`.
use Rattle.cluster_gate.proofs.Prelude.{drop, request_view, ClusterState, GivesBefore, IsClusterFor, OneImage}
use Rattle.cluster_gate.proofs.cluster.Cluster.dispatch.Given as goal
use Rattle.admission.specs.declared.language.Language.{Language}

abbrev pub invariant-loop-gate : goal.invariant-loop-gate
invariant-loop-gate l = (language : Language) (s : ClusterState) → IsClusterFor language s l.self
    → GivesBefore language OneImage s l.case.review.now l.case.limits (request_view l.case.request.now) s.policies (drop l.gate-index s.policies) l.events
