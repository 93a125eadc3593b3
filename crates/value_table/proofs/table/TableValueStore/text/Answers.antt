-- Proofs of `table::TableValueStore::text`: the result meets the contract; its calls meet their requirements.

use Rattle.value_table.proofs.Prelude.{◌∙◌, sym, ap, text_at}
use Rattle.value_table.proofs.Named.{at_place, no_text}
use Rattle.value_table.proofs.table.TableValueStore.text.Goals as goal

pub text-requires-clause-inside : goal.text-requires-clause-inside
text-requires-clause-inside c = (at_place c.self.inside.heap c.self.inside.places c.args.h c.in-Some.place c.self.invariant.0 (sym c.in-Some.ensures)).inside

pub returns-in-Some : goal.returns-in-Some
returns-in-Some c =
    let p = at_place c.self.inside.heap c.self.inside.places c.args.h c.in-Some.place c.self.invariant.0 (sym c.in-Some.ensures) in
    rw (← c.self.view_is) (c.text.ensures ∙ ap text_at (sym p.value_is))

pub returns-in-None : goal.returns-in-None
returns-in-None c = rw (← c.self.view_is) (sym (no_text c.self.inside.heap c.self.inside.places c.args.h (sym c.in-None.ensures)))
