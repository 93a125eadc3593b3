-- Proofs of `table::TableValueStore::depth`: the result meets the contract; its calls meet their requirements.

use Rattle.value_table.proofs.Prelude.{◌∙◌, ◌<◌, length, sym, ap, subst, Some, option_map, depth_of, result_depth}
use Rattle.value_table.proofs.Named.{at_place, no_depth}
use Rattle.value_table.proofs.table.TableValueStore.depth.Goals as goal

pub cell-requires-clause-inside : goal.cell-requires-clause-inside
cell-requires-clause-inside c = (at_place c.self.inside.heap c.self.inside.places c.args.h c.in-Some.place c.self.invariant.0 (sym c.in-Some.ensures)).inside

pub returns-in-Some : goal.returns-in-Some
returns-in-Some c =
    let p = at_place c.self.inside.heap c.self.inside.places c.args.h c.in-Some.place c.self.invariant.0 (sym c.in-Some.ensures) in
    let f = c.cell.ensures.found in
    rw (← c.self.view_is) (ap Some (f.depth ∙ ap depth_of (sym f.is)) ∙ ap (option_map result_depth) (sym p.value_is))

pub returns-in-None : goal.returns-in-None
returns-in-None c =
    let inside = subst (λ t. c.args.h < length t.values) (sym c.self.view_is) c.requires in
    rw (← c.self.view_is) (no_depth c.self.inside.heap c.self.inside.places c.args.h inside (sym c.in-None.ensures))
