-- Proofs of `lists::items_in`: each turn of the loop keeps the invariant.

use Rattle.cluster_state.proofs.Prelude.{[], ◌+◌, ◌∙◌, ◌∷◌, ap, drop, item_view, map, map-append, view}
use Rattle.json_fields.proofs.Items.{from_place}
use Rattle.cluster_state.proofs.Turns.{items_next}
use Rattle.cluster_state.proofs.lists.items_in.Goals as goal

pub loop-document-preserved : goal.loop-document-preserved
loop-document-preserved c = record {
  place = ap (λ i. i + 1) c.loop-document.invariant.place;
  go =
      items_next _ _ (map (λ d. view d.now) (drop (c.loop-document.document-index + 1) c.args.documents.now)) (view c.document-item.result.now) c.loop-document.place _ _
      (item_view c.in-Some.item) c.loop-document.invariant.go
      (ap (map (λ d. view d.now)) (from_place c.args.documents.now c.loop-document.document-index c.document-item.result c.loop-document-test.true c.document-item.is))
      c.in-Some.ensures (ap (map item_view) c.in_ok-push-in-Some.ensures.items ∙ map-append item_view c.loop-document.items.items (c.in-Some.item ∷ []));
}
