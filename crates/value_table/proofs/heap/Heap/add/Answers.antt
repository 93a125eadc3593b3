-- Proofs of `heap::Heap::add`: the result meets the contract.

use Rattle.value_table.proofs.Prelude.{refl}
use Rattle.value_table.proofs.Adding.{extends_same, gained}
use Rattle.value_table.proofs.heap.Heap.add.Goals as goal

pub returns-clause-gained : goal.returns-clause-gained
returns-clause-gained c =
    gained c.args.self.now _ _ c.args.cell _ _ c.requires.heap (extends_same c.args.self.now.backings)
    (record { words = c.room_for_cell.ensures.words; fits = c.in_ok-cells.ensures.word; same = c.in_ok-cells.ensures.cells; cells = c.append.ensures.items; at = c.append.ensures.place })
    (record { cell = c.requires.cell; value = refl })
