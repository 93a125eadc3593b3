-- Proofs of `heap::Heap::join_lists`: the result meets the contract; its calls meet their requirements.

use Rattle.value_table.proofs.Prelude.{ap}
use Rattle.value_table.specs.declared.content.Content.TheVariants as cell
use Rattle.value_table.proofs.Adding.{gained}
use Rattle.value_table.proofs.Counted.{counted}
use Rattle.value_table.proofs.Listed.{list_brackets, lists_joined, made_by}
use Rattle.value_table.proofs.heap.Heap.join_lists.Goals as goal

pub joined_length-json-requires : goal.joined_length-json-requires
joined_length-json-requires c = list_brackets _ _ _ _ _ _ c.cell-second.ensures.found c.in-List-content.is

pub returns : goal.returns
returns c =
    gained c.args.self.now _ _ _ _ _ c.requires.heap c.join_items.ensures.grown
    (record { words = c.room_for_cell.ensures.words; fits = c.in_ok-cells.ensures.word; same = c.in_ok-cells.ensures.cells; cells = c.append.ensures.items; at = c.append.ensures.place })
    (counted (ap (cell.List c.in_ok-joined.joined) c.in_ok-both.ensures) (made_by c.max.ensures c.joined_length-json.ensures
    (lists_joined c.args.self.now.backings c.join_items.new.self _ c.args.a c.args.b c.in-List.backing c.in-List.count c.in-List-content.other
    c.in-List-content.more c.in_ok-joined.joined (record { cell = c.cell-first.result; found = c.cell-first.ensures.found; is = c.in-List.is })
    (record { cell = c.cell-second.result; found = c.cell-second.ensures.found; is = c.in-List-content.is }) c.in_ok-joined.ensures.items)))
