-- Proofs of `heap::Heap::put`: the result meets the contract; its calls meet their requirements.

use Rattle.value_table.proofs.Prelude.{rules, ◌≡◌, ◌+◌, ◌∙◌, sym, ap, ap₂, subst, arith, max, IsSome, keys_of, Ascend, part_of, value_in, keys_at, refs_at, meaning, IsContent, HoldsItems, with_one, heap_values, texts_of, IsKeyAt, IsInsertionPlace, put_values}
use Rattle.value_store.specs.Value as kind
use Rattle.value_table.specs.declared.content.Content.TheVariants as cell
use Rattle.value_table.proofs.Adding.{heap_before, gained}
use Rattle.value_table.proofs.Heads.{map_long}
use Rattle.value_table.proofs.Lookups.{map_here}
use Rattle.value_table.proofs.Counted.{counted}
use Rattle.value_table.proofs.Listed.{made_by}
use Rattle.value_table.proofs.Mapped.{IsPut, map_put, taken}
use Rattle.value_table.proofs.heap.Heap.put.Goals as goal
use Rattle.value_table.proofs.heap.Heap.put.Goals.{After-keys, After-text}

-- ---- facts for the search

keys_searched : (c : After-keys) → texts_of c.items-bytes.result.now c.keys.result.now ≡ texts_of c.args.self.now.backings.bytes (keys_at c.args.self.now.backings.keys c.in-Map.row c.in-Map.count)
keys_searched c = ap₂ texts_of c.items-bytes.ensures.value (c.keys.ensures ∙ ap (λ xs. keys_at xs c.in-Map.row c.in-Map.count) c.items.ensures.value)

key_searched : (c : After-text) → c.text.result.now ≡ part_of c.args.self.now.backings.bytes c.in-Text.key
key_searched c = c.text.ensures ∙ ap (λ xs. part_of xs c.in-Text.key) c.items-bytes.ensures.value

pub search-requires-clause-ordered : goal.search-requires-clause-ordered
search-requires-clause-ordered c =
    let here = map_here c.args.self.now.backings (heap_values c.args.self.now) c.args.m c.cell-map.result c.in-Map.row c.in-Map.backing c.in-Map.count c.cell-map.ensures.found c.in-Map.is in
    subst Ascend (sym (keys_searched (goal.at.search-requires-clause-ordered c).After-keys)) here.ordered

pub unreachable-requires-in_default-search : goal.unreachable-requires-in_default-search
unreachable-requires-in_default-search c =
    let at = goal.at.unreachable-requires-in_default-search c in
    let heap = c.args.self.now in
    let bs = heap.backings in
    let key = part_of bs.bytes c.in-Text.key in
    let place = c.in_default-search.field-0 in
    let here = map_here bs (heap_values heap) c.args.m c.cell-map.result c.in-Map.row c.in-Map.backing c.in-Map.count c.cell-map.ensures.found c.in-Map.is in
    let found = subst (λ s. IsKeyAt (keys_of here.entries) s place) (key_searched at.After-text) (subst (λ t. IsKeyAt t c.text.result.now place) (keys_searched at.After-keys ∙ sym here.keys) c.in_default-search.ensures) in
    let name : value_in (heap_values heap) c.args.k ≡ kind.text key = c.cell-name.ensures.found.is ∙ ap (meaning bs (heap_values heap)) c.in-Text.is in
    let due = subst IsSome (ap₂ (λ v w. put_values v w (value_in (heap_values heap) c.args.x)) here.is name) c.requires.kinds in
    taken here.entries key (value_in (heap_values heap) c.args.x) place (subst Ascend (sym here.keys) here.ordered) found due

-- ---- the map with the entry

pub returns : goal.returns
returns c =
    let at = goal.at.returns c in
    let heap = c.args.self.now in
    let bs = heap.backings in
    let ks = keys_at bs.keys c.in-Map.row c.in-Map.count in
    let gap = subst (λ s. IsInsertionPlace (texts_of bs.bytes ks) s c.in-Err.gap) (key_searched at.After-text)
    (subst (λ t. IsInsertionPlace t c.text.result.now c.in-Err.gap) (keys_searched at.After-keys) c.in-Err.ensures) in
    let fm = c.cell-map.ensures.found in
    let long = map_long bs c.args.m c.in-Map.row c.in-Map.backing c.in-Map.count (subst (IsContent bs c.args.m) c.in-Map.is fm.content) in
    let deep : c.max-depth.result ≡ max c.cell-map.result.depth (c.cell-value.result.depth + 1) =
    omega (arith, c.saturating_add.ensures, c.max-depth.ensures, c.cell-value.ensures.found.shallow, c.cell-value.ensures.short) in
    let put : IsPut bs (heap_values heap) c.args.m c.args.k c.args.x c.in-Map.row c.in-Map.backing c.in-Map.count c.in-Err.gap c.in-Text.key =
    record {
      map = c.cell-map.result;
      name = c.cell-name.result;
      value = c.cell-value.result;
      map_found = fm;
      name_found = c.cell-name.ensures.found;
      value_found = c.cell-value.ensures.found;
      map_is = c.in-Map.is;
      name_is = c.in-Text.is;
      pairs = long;
      gap = gap;
    } in
    let rs = refs_at bs.lists c.in-Map.backing c.in-Map.count in
    let holds = subst (λ p. HoldsItems c.put_entry.new.self.lists c.in_ok-entry.entry.1 (c.in-Map.count + 1) (with_one c.in-Err.gap p rs)) c.in_ok-place.ensures c.in_ok-entry.ensures.items in
    let made = counted (ap (cell.Map c.in_ok-entry.entry.0 c.in_ok-entry.entry.1) c.in_ok-larger.ensures) (made_by deep c.put_length-json.ensures
    (map_put bs (heap_values heap) c.args.m c.args.k c.args.x c.put_entry.new.self c.in-Map.row c.in-Map.backing c.in-Map.count c.in_ok-entry.entry.0 c.in_ok-entry.entry.1 c.in-Err.gap c.in-Text.key put
    (record { bytes = c.put_entry.ensures.bytes; values = holds; keys = c.in_ok-entry.ensures.keys }))) in
    gained heap _ _ _ _ _ c.requires.heap c.put_entry.ensures.grown
    (record { words = c.room_for_cell.ensures.words; fits = c.in_ok-cells.ensures.word; same = c.in_ok-cells.ensures.cells; cells = c.append.ensures.items; at = c.append.ensures.place })
    made

pub returns-in_err-entry : goal.returns-in_err-entry
returns-in_err-entry c = search (rules, heap_before)
