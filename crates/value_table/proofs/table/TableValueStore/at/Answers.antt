-- Proofs of `table::TableValueStore::at`: the result meets the contract; its calls meet their requirements.

use Rattle.value_table.proofs.Prelude.{◌∙◌, sym, ap, refl, Some, option_map, outcome_view}
use Rattle.value_table.proofs.Named.{at_place, none_at}
use Rattle.value_table.proofs.table.TableValueStore.at.Goals as goal

pub shape-requires-clause-inside : goal.shape-requires-clause-inside
shape-requires-clause-inside c = (at_place c.self.inside.heap c.self.inside.places c.args.h c.in-Some.place c.self.invariant.0 (sym c.in-Some.ensures)).inside

pub returns-in-Some-clause-shape : goal.returns-in-Some-clause-shape
returns-in-Some-clause-shape c =
    let p = at_place c.self.inside.heap c.self.inside.places c.args.h c.in-Some.place c.self.invariant.0 (sym c.in-Some.ensures) in
    rw (← c.self.view_is) (ap Some c.shape.ensures.shape ∙ ap (option_map outcome_view) (sym p.value_is))

pub returns-in-None-clause-shape : goal.returns-in-None-clause-shape
returns-in-None-clause-shape c = rw (← c.self.view_is, c.if-h-eq0.true) refl

pub returns-in-None-2-clause-shape : goal.returns-in-None-2-clause-shape
returns-in-None-2-clause-shape c =
    rw (← c.self.view_is) (ap (option_map outcome_view) (sym (none_at c.self.inside.heap c.self.inside.places c.args.h c.if-h-eq0.false (sym c.in-None.ensures))))
