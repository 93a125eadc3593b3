-- Loop invariants of `cluster::listed::counts`.
use Rattle.gatekeeper_runner.proofs.Prelude.{◌≡◌, ◌+◌, drop, length, map}
use Rattle.serde_json.specs.View.{view}
use Rattle.cluster_state.specs.Policies.{ParamKind}
use Rattle.gatekeeper_runner.specs.Cluster.Telling.{listed}
use Rattle.gatekeeper_runner.specs.Cluster.Counts.{count_of}
use Rattle.gatekeeper_runner.proofs.cluster.listed.counts.Given as goal

abbrev pub invariant-loop-list : goal.invariant-loop-list
invariant-loop-list l = (k : ParamKind)
    → count_of l.counts k + length (listed k (map view (drop l.list-index l.lists))) ≡ length (listed k (map view l.lists))
