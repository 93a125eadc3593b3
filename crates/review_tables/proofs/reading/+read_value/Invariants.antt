-- Loop invariants and the termination measures of `reading::read_value`.

use Rattle.value_table.proofs.Prelude.{◌+◌, length, HasGrown, heap_values, IsHeap}
use Rattle.std.proofs.Common.{◌*◌}
use Rattle.review_tables.proofs.ReadLoops.{ItemsRead, MembersRead}
use Rattle.review_tables.proofs.reading.+read_value.Given as goal

abbrev pub decreases-read_value : goal.decreases-read_value
decreases-read_value l = 3 * l.depth

abbrev pub decreases-read_items : goal.decreases-read_items
decreases-read_items l = 3 * l.depth + 2

abbrev pub decreases-read_members : goal.decreases-read_members
decreases-read_members l = 3 * l.depth + 2

abbrev pub invariant-read_items-items : goal.invariant-read_items-items
invariant-read_items-items l = record {
  heap : IsHeap l.heap;
  grown : HasGrown (heap_values l.fn.heap) (heap_values l.heap);
  items : ItemsRead l.depth l.initial.reader l.reader (heap_values l.heap) l.pending;
}

abbrev pub decreases-read_items-items : goal.decreases-read_items-items
decreases-read_items-items l = length l.reader

abbrev pub invariant-gather_members-members : goal.invariant-gather_members-members
invariant-gather_members-members l = record {
  heap : IsHeap l.heap;
  grown : HasGrown (heap_values l.fn.heap) (heap_values l.heap);
  members : MembersRead l.depth l.initial.reader l.reader (heap_values l.heap) l.found.entries;
}

abbrev pub decreases-gather_members-members : goal.decreases-gather_members-members
decreases-gather_members-members l = length l.reader

abbrev pub decreases-gather_members : goal.decreases-gather_members
decreases-gather_members l = 3 * l.depth + 1
