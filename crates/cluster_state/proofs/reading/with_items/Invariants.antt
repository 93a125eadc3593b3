-- Loop invariant of `reading::with_items`.

use Rattle.cluster_state.specs.Numbers.{HasNumbers}
use Rattle.cluster_state.proofs.Prelude.{◌≡◌, drop, map, item_view, objects_view}
use Rattle.cluster_state.proofs.Adding.{AddGo}
use Rattle.cluster_state.proofs.reading.with_items.Given as goal

abbrev pub invariant-loop-item : goal.invariant-loop-item
invariant-loop-item l = record {
  number : l.number ≡ l.item-index;
  go : AddGo (map item_view l.items) (map item_view (drop l.item-index l.items)) (objects_view l.objects);
  numbered : HasNumbers (map item_view l.items) l.objects.collections;
}
