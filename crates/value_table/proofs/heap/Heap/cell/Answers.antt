-- Proofs of `heap::Heap::cell`: the result meets the contract.

use Rattle.value_table.proofs.Growth.{found}
use Rattle.value_table.proofs.heap.Heap.cell.Goals as goal

pub returns-clause-found : goal.returns-clause-found
returns-clause-found c = found c.args.self.now.backings c.args.self.now.cells c.args.place _ c.at.ensures.value c.requires.heap.cells
