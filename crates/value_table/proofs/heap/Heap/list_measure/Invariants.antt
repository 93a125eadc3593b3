-- Loop invariant of `heap::Heap::list_measure`.

use Rattle.value_table.proofs.Prelude.{◌≡◌, length, take, list, items_at, heap_values, IsMeasure}
use Rattle.value_table.proofs.heap.Heap.list_measure.Given as goal

abbrev pub invariant-loop-place : goal.invariant-loop-place
invariant-loop-place l = record {
  measure : IsMeasure (length (heap_values l.self)) (list (items_at (heap_values l.self) (take l.place-index l.places))) l.measure;
  count : l.count ≡ l.place-index;
}
