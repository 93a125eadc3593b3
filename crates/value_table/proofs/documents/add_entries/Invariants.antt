-- Loop invariant of `documents::add_entries`.

use Rattle.value_table.proofs.Prelude.{◌≡◌, map, string_bytes, take, heap_values, IsHeap}
use Rattle.value_table.proofs.Growing.{KeysStand}
use Rattle.value_table.proofs.documents.add_entries.Given as goal

abbrev pub invariant-loop-key : goal.invariant-loop-key
invariant-loop-key l = record {
  heap : IsHeap l.heap;
  values : heap_values l.heap ≡ heap_values l.fn.heap;
  keys : KeysStand (map string_bytes (take l.key-index l.keys)) l.heap.backings.bytes l.parts.items;
}
