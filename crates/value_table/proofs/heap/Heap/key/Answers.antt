-- Proofs of `heap::Heap::key`: the result meets the contract.

use Rattle.value_table.proofs.Prelude.{◌≡◌, heap_values, keys_at}
use Rattle.value_table.proofs.Looked.{key_inside, key_text}
use Rattle.value_table.proofs.heap.Heap.key.Goals as goal

pub returns-clause-text : goal.returns-clause-text
returns-clause-text c =
    let bs = c.args.self.now.backings in
    let n = key_inside bs (heap_values c.args.self.now) c.args.place c.in-Map.first c.in-Map.field-1 c.in-Map.count c.args.i c.cell.result c.cell.ensures.found c.in-Map.is c.requires.key in
    let keys : c.keys.result.now ≡ keys_at bs.keys c.in-Map.first c.in-Map.count = cc in
    rw keys (key_text bs (heap_values c.args.self.now) c.args.place c.in-Map.first c.in-Map.field-1 c.in-Map.count c.args.i _ c.cell.result c.cell.ensures.found c.in-Map.is n)
