-- Proofs of `table::Table::width`: the result meets the contract; its call meets its requirements.

use Rattle.std.proofs.Common.{◌∙◌, ◌<◌, length, sym, ap, subst, Some, option_map, arith}
use Rattle.value_table.proofs.Prelude.{heap_values}
use Rattle.value_widths.specs.Width.{result_width}
use Rattle.value_table.proofs.Comparisons.{contents_of, meanings_of}
use Rattle.value_table.proofs.Growth.{count_values}
use Rattle.value_table.proofs.Named.{at_place}
use Rattle.value_table.proofs.Widths.{no_width}
use Rattle.value_table.proofs.table.Table.width.Goals as goal

pub width-requires-clause-contents : goal.width-requires-clause-contents
width-requires-clause-contents c = contents_of c.self.inside.heap.backings c.self.inside.heap.cells c.self.invariant.0.heap.cells

pub width-requires-clause-inside : goal.width-requires-clause-inside
width-requires-clause-inside c =
    let p = at_place c.self.inside.heap c.self.inside.places c.args.h c.in-Some.place c.self.invariant.0 (sym c.in-Some.ensures) in
    let n = count_values c.self.inside.heap.backings c.self.inside.heap.cells in
    let l = p.inside in omega (arith, n, l)

pub returns-in-Some : goal.returns-in-Some
returns-in-Some c =
    let p = at_place c.self.inside.heap c.self.inside.places c.args.h c.in-Some.place c.self.invariant.0 (sym c.in-Some.ensures) in
    let m = meanings_of c.self.inside.heap.backings c.self.inside.heap.cells c.self.invariant.0.heap.cells in
    rw (← c.self.view_is) (ap Some (c.width.ensures (heap_values c.self.inside.heap) m) ∙ ap (option_map result_width) (sym p.value_is))

pub returns-in-None : goal.returns-in-None
returns-in-None c =
    let inside = subst (λ t. c.args.h < length t.values) (sym c.self.view_is) c.requires in
    rw (← c.self.view_is) (no_width c.self.inside.heap c.self.inside.places c.args.h inside (sym c.in-None.ensures))
