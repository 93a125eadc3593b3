-- Proofs of `heap::Heap::has_key`: the result meets the contract.

use Rattle.value_table.proofs.Prelude.{Some, sym, ap, ◌∙◌, part_of, value_in, meaning, heap_values}
use Rattle.value_store.specs.Value as kind
use Rattle.value_table.proofs.Comparisons.{key_member}
use Rattle.value_table.proofs.heap.Heap.has_key.Goals as goal

pub returns : goal.returns
returns c =
    let heap = c.args.self.now in
    let read = ap (λ bytes. part_of bytes c.in-Text.part) (sym c.items.ensures.value) ∙ sym c.text.ensures in
    let is = c.cell.ensures.found.is ∙ ap (meaning heap.backings (heap_values heap)) c.in-Text.is ∙ ap kind.text read in
    ap (λ b. Some b) c.is_some.ensures ∙ key_member (value_in (heap_values heap) c.args.x) (value_in (heap_values heap) c.args.map) c.text.result.now c.find.result is c.find.ensures
