-- Proofs of `heap::Heap::find`: the result meets the contract; its calls meet their requirements.

use Rattle.value_table.proofs.Prelude.{◌≡◌, ap, sym, ◌∙◌, Some, keys_at, texts_of, place_among}
use Rattle.value_table.proofs.Lookups.{map_here, find_here}
use Rattle.value_table.proofs.heap.Heap.find.Goals as goal

pub place-requires-clause-ordered : goal.place-requires-clause-ordered
place-requires-clause-ordered c =
    let bs = c.args.self.now.backings in
    let here = map_here bs _ c.args.map c.cell.result c.in-Map.first c.in-Map.field-1 c.in-Map.count c.cell.ensures.found c.in-Map.is in
    let keys : c.keys-keys.result.now ≡ keys_at bs.keys c.in-Map.first c.in-Map.count = cc in
    rw (c.items-in-Map.ensures.value, keys) here.ordered

pub returns-in-Map : goal.returns-in-Map
returns-in-Map c =
    let bs = c.args.self.now.backings in
    let here = map_here bs _ c.args.map c.cell.result c.in-Map.first c.in-Map.field-1 c.in-Map.count c.cell.ensures.found c.in-Map.is in
    let keys : c.keys-keys.result.now ≡ keys_at bs.keys c.in-Map.first c.in-Map.count = cc in
    let texts : texts_of c.items-in-Map.result.now c.keys-keys.result.now ≡ texts_of bs.bytes (keys_at bs.keys c.in-Map.first c.in-Map.count) = rw (c.items-in-Map.ensures.value, keys) in
    ap (λ o. Some o) (c.place.ensures ∙ ap (place_among c.args.key.now) texts) ∙ sym (find_here bs _ c.in-Map.first c.in-Map.count c.args.key.now here)
