-- Loop invariants of `cluster::listed::add_objects`.
use Rattle.gatekeeper_runner.proofs.Prelude.{◌≡◌, ◌+◌, drop, length, map}
use Rattle.std.specs.Prelude.{filter}
use Rattle.serde_json.specs.View.{view}
use Rattle.cluster_state.specs.Policies.{ParamKind}
use Rattle.gatekeeper_runner.specs.Cluster.Telling.{is_of_param_kind}
use Rattle.gatekeeper_runner.specs.Cluster.Counts.{count_of}
use Rattle.gatekeeper_runner.proofs.cluster.listed.add_objects.Given as goal

abbrev pub invariant-loop-object : goal.invariant-loop-object
invariant-loop-object l = (k : ParamKind)
    → count_of l.counts k + length (filter (is_of_param_kind k) (map view (drop l.object-index l.objects)))
    ≡ count_of l.initial.counts k + length (filter (is_of_param_kind k) (map view l.objects))
