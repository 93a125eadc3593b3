-- Proofs of `lists::documents`: each turn of the loop keeps the invariant.

use Rattle.cluster_state.proofs.Prelude.{◌+◌, ap, drop, map, view}
use Rattle.json_fields.proofs.Items.{from_place}
use Rattle.cluster_state.proofs.Turns.{documents_next}
use Rattle.cluster_state.proofs.lists.documents.Goals as goal

pub loop-list-preserved : goal.loop-list-preserved
loop-list-preserved c = record {
  place = ap (λ i. i + 1) c.loop-list.invariant.place;
  go =
      documents_next _ _ (map view (drop (c.loop-list.list-index + 1) c.args.lists.now)) (view c.list-item.result) c.loop-list.place _ (map view c.in-Some.items.now) _
      c.loop-list.invariant.go (ap (map view) (from_place c.args.lists.now c.loop-list.list-index c.list-item.result c.loop-list-test.true c.list-item.is))
      c.in-Some.ensures c.in_ok-append-in-Some.ensures;
}
