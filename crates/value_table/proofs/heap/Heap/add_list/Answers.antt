-- Proofs of `heap::Heap::add_list`: the result meets the contract.

use Rattle.value_table.proofs.Prelude.{ap, refl}
use Rattle.value_table.specs.declared.content.Content.TheVariants as cell
use Rattle.value_table.proofs.Adding.{gained}
use Rattle.value_table.proofs.Counted.{counted}
use Rattle.value_table.proofs.Gathered.{list_gathered}
use Rattle.value_table.proofs.heap.Heap.add_list.Goals as goal

pub returns : goal.returns
returns c =
    gained c.args.self.now _ _ _ _ _ c.requires.heap c.pool_items.ensures.grown
    (record { words = c.room_for_cell.ensures.words; fits = c.in_ok-cells.ensures.word; same = c.in_ok-cells.ensures.cells; cells = c.append.ensures.items; at = c.append.ensures.place })
    (counted (ap (cell.List c.in_ok-backing.backing) c.in_ok-count.ensures) (list_gathered c.pool_items.new.self _ _ c.args.places.now c.in_ok-backing.backing _ refl c.in_ok-backing.ensures.items c.requires.items
    c.list_measure-measure.ensures c.requires.ordered))
