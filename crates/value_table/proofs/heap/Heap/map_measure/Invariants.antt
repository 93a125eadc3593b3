-- Loop invariant of `heap::Heap::map_measure`.

use Rattle.value_table.proofs.Prelude.{length, take, entries_at, heap_values, IsMeasure}
use Rattle.value_store.specs.Value.{map}
use Rattle.value_table.proofs.heap.Heap.map_measure.Given as goal

abbrev pub invariant-loop-i : goal.invariant-loop-i
invariant-loop-i l = record {
  measure : IsMeasure (length (heap_values l.self)) (map (entries_at l.self.backings.bytes (heap_values l.self) (take l.i l.keys) (take l.i l.places))) l.measure;
}
