-- Proof obligations of `cluster::listed::add_objects`.
use Rattle.gatekeeper_runner.proofs.OfClusters.Counted.{object_next}
use Rattle.gatekeeper_runner.proofs.cluster.listed.add_objects.Goals as goal

pub loop-object-preserved : goal.loop-object-preserved
loop-object-preserved c k =
    object_next k c.args.objects.now c.loop-object.object-index c.object-item.result _ _ _ c.loop-object-test.true c.object-item.is (c.loop-object.invariant k) (c.in_ok-add_object.ensures k)
