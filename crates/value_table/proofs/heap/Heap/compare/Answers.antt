-- Proofs of `heap::Heap::compare`: the result meets the contract.

use Rattle.value_table.proofs.Prelude.{◌≡◌, length, refl, ap, arith, heap_values, Compares}
use Rattle.value_table.proofs.Growth.{count_values}
use Rattle.value_table.proofs.Comparisons.{answer_is, meanings_of}
use Rattle.value_table.proofs.heap.Heap.compare.Goals as goal

pub returns-clause-answer : goal.returns-clause-answer
returns-clause-answer c =
    let heap = c.complete_words.new.self in
    let vs = heap_values c.args.self.now in
    let same : heap_values heap ≡ vs = rw (c.complete_words.ensures.backings, c.complete_words.ensures.cells) refl in
    let n = count_values heap.backings heap.cells in
    let after : Compares vs (length c.args.self.now.cells) heap.same.items c.equal.new.same c.args.a c.args.b c.equal.result = grind (arith, meanings_of) in
    answer_is heap.backings vs heap.cells c.args.a c.args.b c.equal.result
    (rw same at (meanings_of heap.backings heap.cells c.complete_words.ensures.heap.cells))
    (omega (arith, ap length same)) (omega (arith, ap length same)) after.right
