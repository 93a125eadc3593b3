-- Proofs of `heap::Heap::map_measure`: each turn of the loop keeps the invariant.

use Rattle.value_table.proofs.Prelude.{◌≡◌, ◌+◌, ◌<◌, [], ◌∷◌, ◌++◌, length, get_or, max, take, sym, ap, ◌∙◌, subst, arith, commas, take_more, length-take-le, quoted, saturated, part_of, entries_at, heap_values, IsMeasure, Part, Measure}
use Rattle.value_store.specs.Value.{map}
use Rattle.value_table.proofs.Walks.{text_here}
use Rattle.value_table.proofs.Gathered.{map_measured}
use Rattle.value_table.proofs.heap.Heap.map_measure.Goals as goal

-- the default for an index past the end
abbrev none : Part
none = record { from = 0; to = 0; json = 0 }

pub loop-i-preserved : goal.loop-i-preserved
loop-i-preserved c =
    let l = c.loop-i in
    let heap = c.args.self.now in
    let bytes = heap.backings.bytes in
    let vs = heap_values heap in
    let ks = c.args.keys.now in
    let ps = c.args.places.now in
    let i = l.i in
    let inside : i < length ks = omega arith in
    let below : i < length ps = omega (arith, c.requires.pairs, inside) in
    let k = get_or ks i none in
    let value = c.cell-value.result in
    let s = c.cell-value.ensures.found.shallow in
    let deep : c.max.result ≡ max l.measure.depth (value.depth + 1) = omega (arith, c.saturating_add.ensures, c.max.ensures, s, c.cell-value.ensures.short) in
    let key : k.json ≡ saturated (length (quoted (part_of bytes k))) = (text_here bytes ks i none c.requires.texts inside).3 in
    let made : Measure = record { depth = c.max.result; json = c.put_length.result } in
    let count : length (take i ks) ≡ i = length-take-le i ks (omega arith) in
    let long = ap (λ n. saturated (l.measure.json + (1 + commas n 1) + k.json + value.json)) (sym count) in
    let next = map_measured heap.backings vs (take i ks) (take i ps) k (get_or ps i 0) l.measure made (count ∙ sym (length-take-le i ps (omega (arith, below)))) l.invariant.measure
    (record { value = value; found = c.cell-value.ensures.found; key = key; deep = deep; long = c.put_length.ensures ∙ long }) in
    record {
      measure = subst (λ rs. IsMeasure (length vs) (map (entries_at bytes vs (take (i + 1) ks) rs)) made) (sym (take_more ps i 0 below))
          (subst (λ xs. IsMeasure (length vs) (map (entries_at bytes vs xs (take i ps ++ get_or ps i 0 ∷ []))) made) (sym (take_more ks i none inside)) next);
    }
