-- Loop invariant of `collecting::collect`.

use Rattle.value_table.proofs.Prelude.{◌≡◌, drop, heap_values, IsHeap}
use Rattle.review_tables.proofs.PlacedMembers.{Collects}
use Rattle.review_tables.proofs.collecting.collect.Given as goal

abbrev pub invariant-loop-key : goal.invariant-loop-key
invariant-loop-key l = record {
  heap : IsHeap l.heap;
  values : heap_values l.heap ≡ heap_values l.fn.heap;
  members : Collects l.found.entries (heap_values l.fn.heap) l.heap.backings.bytes l.keys.items l.places.items l.size (drop l.key-index l.found.entries);
}
