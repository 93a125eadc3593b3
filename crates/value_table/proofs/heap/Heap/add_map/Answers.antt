-- Proofs of `heap::Heap::add_map`: the result meets the contract.

use Rattle.value_table.proofs.Prelude.{ap}
use Rattle.value_table.specs.declared.content.Content.TheVariants as cell
use Rattle.value_table.proofs.Adding.{gained}
use Rattle.value_table.proofs.Counted.{counted}
use Rattle.value_table.proofs.Gathered.{map_gathered}
use Rattle.value_table.proofs.heap.Heap.add_map.Goals as goal

pub returns : goal.returns
returns c =
    gained c.args.self.now _ _ _ _ _ c.requires.heap c.add_entries.ensures.grown
    (record { words = c.room_for_cell.ensures.words; fits = c.in_ok-cells.ensures.word; same = c.in_ok-cells.ensures.cells; cells = c.append.ensures.items; at = c.append.ensures.place })
    (counted (ap (cell.Map c.in_ok-row.row c.in_ok-row.backing) c.in_ok-count.ensures) (map_gathered c.args.self.now.backings c.add_entries.new.self _ c.args.keys.now c.args.places.now c.in_ok-row.row c.in_ok-row.backing _
    c.add_entries.ensures.bytes (record { keys = c.in_ok-row.ensures.keys; values = c.in_ok-row.ensures.values })
    (record { pairs = c.requires.pairs; texts = c.requires.texts; below = c.requires.values; measure = c.map_measure-measure.ensures; ordered = c.requires.ordered })))
