-- Proofs of `heap::Heap::list_measure`: each turn of the loop keeps the invariant.

use Rattle.value_table.proofs.Prelude.{◌≡◌, ◌+◌, ◌<◌, length, get_or, max, take, sym, ap, subst, ◌∙◌, arith, saturated, commas, take_more, length-take-le, list, items_at, heap_values, IsMeasure}
use Rattle.value_table.proofs.Gathered.{list_measured}
use Rattle.value_table.proofs.heap.Heap.list_measure.Goals as goal

pub loop-place-preserved : goal.loop-place-preserved
loop-place-preserved c =
    let l = c.loop-place in
    let vs = heap_values c.args.self.now in
    let ps = c.args.places.now in
    let i = l.place-index in
    let inside : i < length ps = omega arith in
    let count = l.invariant.count in
    let item = c.cell-item.result in
    let s = c.cell-item.ensures.found.shallow in
    let deep : c.max.result ≡ max l.measure.depth (item.depth + 1) = omega (arith, c.saturating_add.ensures, c.max.ensures, s, c.cell-item.ensures.short) in
    let more = take_more ps i 0 inside in
    let long = ap (λ n. saturated (l.measure.json + commas n 1 + item.json)) (count ∙ sym (length-take-le i ps (omega arith))) in
    let next = list_measured c.args.self.now.backings vs (take i ps) (get_or ps i 0) l.measure (record { depth = c.max.result; json = c.pushed_length.result }) item l.invariant.measure c.cell-item.ensures.found deep (c.pushed_length.ensures ∙ long) in
    record {
      measure = subst (λ rs. IsMeasure (length vs) (list (items_at vs rs)) (record { depth = c.max.result; json = c.pushed_length.result })) (sym more) next;
      count = omega (arith, c.loop-place.auto.place-index-end, c.saturating_add-count.ensures, count, inside);
    }
