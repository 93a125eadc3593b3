-- Proof obligations of `cluster::answer_by_state`.
use Rattle.gatekeeper_runner.proofs.Prelude.{Err, Ok, map, refl, subst}
use Rattle.serde_json.specs.View.{view}
use Rattle.cluster_state.specs.State.{ClusterState}
use Rattle.gatekeeper_runner.specs.Endings.{not_started, started}
use Rattle.gatekeeper_runner.specs.Cluster.Lines.{OpensKeeper}
use Rattle.gatekeeper_runner.specs.Orders.{cluster_order_view}
use Rattle.gatekeeper_runner.proofs.OfClusters.Decided.{as_cluster}
use Rattle.gatekeeper_runner.proofs.OfClusters.Ends.{not_opened, opened}
use Rattle.gatekeeper_runner.proofs.cluster.answer_by_state.Goals as goal

pub returns-in-Ok : goal.returns-in-Ok
returns-in-Ok g c known s hold due same =
    let opens = subst (λ (x : ClusterState). OpensKeeper (map view c.args.task.now.lists.items) (cluster_order_view c.args.task.now.order) x (Ok c.in-Ok.keeper)) same c.in-Ok.ensures in
    started _ (opened known _ _ hold s due c.in-Ok.keeper opens) (record {
      text = _;
      policies = opens.0.told;
      told = _;
      tells = rw c.as_slice.ensures.value at c.tell_bytes.ensures;
      ends = as_cluster _ c.in-Ok.keeper opens.0 _ _ _ _ _ _ _ _ _ c.end_lines.ensures;
    })

pub returns-in-Err : goal.returns-in-Err
returns-in-Err g c known s hold due same =
    let refuses = subst (λ (x : ClusterState). OpensKeeper (map view c.args.task.now.lists.items) (cluster_order_view c.args.task.now.order) x (Err c.in-Err.refusal)) same c.in-Err.ensures in
    not_started (not_opened known _ _ hold s due c.in-Err.refusal refuses) refl refl c.end_start.ensures
