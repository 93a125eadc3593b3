-- Proof obligations of `cluster::listed::counts`.
use Rattle.gatekeeper_runner.proofs.Prelude.{◌∙◌, ◌+◌, ap, length, map}
use Rattle.std.specs.Prelude.{filter}
use Rattle.serde_json.specs.View.{view}
use Rattle.gatekeeper_runner.specs.Cluster.Telling.{is_of_param_kind, listed}
use Rattle.gatekeeper_runner.specs.Cluster.Counts.{count_of}
use Rattle.gatekeeper_runner.proofs.OfClusters.Counted.{from_none, list_next, none_counted}
use Rattle.gatekeeper_runner.proofs.cluster.listed.counts.Goals as goal

pub loop-list-init : goal.loop-list-init
loop-list-init c k =
    from_none (count_of c.new-counts.result k) (length (listed k (map view c.args.lists.now))) (none_counted c.new-counts.result c.new-counts.ensures.empty k)

pub loop-list-preserved : goal.loop-list-preserved
loop-list-preserved c k =
    list_next k c.args.lists.now c.loop-list.list-index c.list-item.result _ _ _ c.loop-list-test.true c.list-item.is (c.loop-list.invariant k) (c.in_ok-add_objects.ensures k ∙ ap (λ ds. count_of c.loop-list.counts k + length (filter (is_of_param_kind k) ds)) c.objects_in.ensures)
