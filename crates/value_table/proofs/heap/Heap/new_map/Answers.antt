-- Proofs of `heap::Heap::new_map`: the result meets the contract.

use Rattle.value_table.proofs.Prelude.{refl}
use Rattle.value_table.proofs.Adding.{gained}
use Rattle.value_table.proofs.Mapped.{map_new}
use Rattle.value_table.proofs.heap.Heap.new_map.Goals as goal

pub returns : goal.returns
returns c =
    gained c.args.self.now _ _ _ _ _ c.requires c.add_empty.ensures.grown
    (record { words = c.room_for_cell.ensures.words; fits = c.in_ok-cells.ensures.word; same = c.in_ok-cells.ensures.cells; cells = c.append.ensures.items; at = c.append.ensures.place })
    (record { cell = map_new c.add_empty.new.self _ c.in_ok-backing.backing _ _ c.in_ok-backing.ensures.items; value = refl })
