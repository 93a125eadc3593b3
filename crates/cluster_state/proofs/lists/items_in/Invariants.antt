-- Loop invariant of `lists::items_in`.

use Rattle.cluster_state.proofs.Prelude.{◌≡◌, drop, map, view, item_view}
use Rattle.cluster_state.proofs.Listed.{ItemsGo}
use Rattle.cluster_state.proofs.lists.items_in.Given as goal

abbrev pub invariant-loop-document : goal.invariant-loop-document
invariant-loop-document l = record {
  place : l.place ≡ l.document-index;
  go : ItemsGo (map (λ d. view d.now) l.documents) (map (λ d. view d.now) (drop l.document-index l.documents)) l.place (map item_view l.items.items);
}
