-- Proofs of `heap::Heap::add_text`: the result meets the contract.

use Rattle.value_table.proofs.Prelude.{sym, Some, ◌∙◌, ap, text, meaning, heap_values}
use Rattle.value_table.proofs.Adding.{gained}
use Rattle.value_table.proofs.heap.Heap.add_text.Goals as goal

pub returns : goal.returns
returns c =
    let is = ap (meaning c.add_text.new.self (heap_values c.args.self.now)) c.text_cell.ensures.content ∙ ap text
    (c.in_ok-part.ensures.part.1 ∙ c.as_bytes.ensures.value) in
    gained c.args.self.now _ _ _ _ _ c.requires c.add_text.ensures.grown
    (record { words = c.room_for_cell.ensures.words; fits = c.in_ok-cells.ensures.word; same = c.in_ok-cells.ensures.cells; cells = c.append.ensures.items; at = c.append.ensures.place })
    (record { cell = c.text_cell.ensures.cell _ _ c.in_ok-part.ensures.part.0; value = ap Some (sym is) })
