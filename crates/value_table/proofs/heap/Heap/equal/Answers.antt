-- Proofs of `heap::Heap::equal`: the result meets the contract; its calls meet their requirements.

use Rattle.value_table.proofs.Prelude.{heap_values}
use Rattle.value_table.proofs.Comparisons.{contents_of, known_of, readable}
use Rattle.value_table.proofs.heap.Heap.equal.Goals as goal

pub equal_by_cells-requires-clause-left : goal.equal_by_cells-requires-clause-left
equal_by_cells-requires-clause-left c = readable c.args.self.now.backings c.args.a c.cell-left.result.content c.cell-left.ensures.found.content

pub equal_by_cells-requires-clause-right : goal.equal_by_cells-requires-clause-right
equal_by_cells-requires-clause-right c = readable c.args.self.now.backings c.args.b c.cell-right.result.content c.cell-right.ensures.found.content

pub returns-in-Some-clause-answer : goal.returns-in-Some-clause-answer
returns-in-Some-clause-answer c =
    let heap = c.args.self.now in
    let cells = c.requires.heap.cells in
    c.in-Some.ensures (heap_values heap) heap.cells c.args.a c.args.b (contents_of heap.backings heap.cells cells) (known_of heap.backings heap.cells cells) c.cell-left.ensures.is c.cell-right.ensures.is
