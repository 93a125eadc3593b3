-- Loop invariant of `lists::documents`.

use Rattle.cluster_state.proofs.Prelude.{◌≡◌, drop, map, view}
use Rattle.cluster_state.proofs.Listed.{DocumentsGo}
use Rattle.cluster_state.proofs.lists.documents.Given as goal

abbrev pub invariant-loop-list : goal.invariant-loop-list
invariant-loop-list l = record {
  place : l.place ≡ l.list-index;
  go : DocumentsGo (map view l.lists) (map view (drop l.list-index l.lists)) l.place (map (λ d. view d.now) l.documents.items);
}
