-- Proofs of `table::TableValueStore::json`: the result meets the contract; its calls meet their requirements.

use Rattle.value_table.proofs.Prelude.{◌∙◌, ◌<◌, length, sym, ap, subst, Some, option_map, IfOk-weaker, shown_text}
use Rattle.value_table.proofs.Named.{at_place, no_place}
use Rattle.value_table.proofs.table.TableValueStore.json.Goals as goal

pub json-requires-clause-inside : goal.json-requires-clause-inside
json-requires-clause-inside c = (at_place c.self.inside.heap c.self.inside.places c.args.h c.in-Some.place c.self.invariant.0 (sym c.in-Some.ensures)).inside

pub returns-in-Some : goal.returns-in-Some
returns-in-Some c =
    let p = at_place c.self.inside.heap c.self.inside.places c.args.h c.in-Some.place c.self.invariant.0 (sym c.in-Some.ensures) in
    rw (← c.self.view_is) (IfOk-weaker c.json.result _ _ (λ s h. ap Some h ∙ ap (option_map shown_text) (sym p.value_is)) c.json.ensures)

pub returns-in-None : goal.returns-in-None
returns-in-None c =
    let inside = subst (λ t. c.args.h < length t.values) (sym c.self.view_is) c.requires in
    let p = no_place c.self.inside.heap c.self.inside.places c.args.h inside (sym c.in-None.ensures) in
    rw (← c.self.view_is) (IfOk-weaker c.from_str.result _ _ (λ s h. ap Some h ∙ ap (option_map shown_text) (sym p)) c.from_str.ensures.ok)
