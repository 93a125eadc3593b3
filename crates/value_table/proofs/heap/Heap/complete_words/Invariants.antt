-- Loop invariant of `heap::Heap::complete_words`.

use Rattle.value_table.proofs.Prelude.{◌≡◌, length, ClassesStay, IsHeap}
use Rattle.value_table.proofs.heap.Heap.complete_words.Given as goal

abbrev pub invariant-loop-place : goal.invariant-loop-place
invariant-loop-place l = record {
  heap : IsHeap l.self;
  cells : l.self.cells ≡ l.fn.self.cells;
  backings : l.self.backings ≡ l.fn.self.backings;
  next : length l.self.same.items ≡ l.place;
  stay : ClassesStay l.fn.self.same.items l.self.same.items;
}
