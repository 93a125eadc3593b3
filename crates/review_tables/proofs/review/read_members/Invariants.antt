-- Loop invariants and the termination measures of `review::read_members`.

use Rattle.value_table.proofs.Prelude.{length, HasGrown, heap_values, IsHeap}
use Rattle.review_tables.proofs.ReviewReading.{FoundSoFar}
use Rattle.review_tables.proofs.review.read_members.Given as goal

abbrev pub invariant-members : goal.invariant-members
invariant-members l = record {
  heap : IsHeap l.heap;
  grown : HasGrown (heap_values l.fn.heap) (heap_values l.heap);
  found : FoundSoFar 126 l.initial.reader l.reader (heap_values l.heap) l.found;
}

abbrev pub decreases-members : goal.decreases-members
decreases-members l = length l.reader
