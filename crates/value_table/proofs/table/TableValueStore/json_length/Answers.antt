-- Proofs of `table::TableValueStore::json_length`: the result meets the contract; its calls meet their requirements.

use Rattle.value_table.proofs.Prelude.{◌≡◌, ◌∙◌, ◌<◌, ◌^◌, ℕ, length, min, sym, ap, subst, arith, rules, Some, option_map, saturated}
use Rattle.value_store.specs.Json as store
use Rattle.value_store.specs.Value.{value}
use Rattle.value_table.proofs.Named.{at_place, no_place}
use Rattle.value_table.proofs.table.TableValueStore.json_length.Goals as goal

held : (n kept : ℕ) → kept ≡ saturated n → min kept 4611686018427387904 ≡ min n (2 ^ 62)
held n kept e = omega (arith, e)

pub cell-requires-clause-inside : goal.cell-requires-clause-inside
cell-requires-clause-inside c = (at_place c.self.inside.heap c.self.inside.places c.args.h c.in-Some.place c.self.invariant.0 (sym c.in-Some.ensures)).inside

pub returns-in-Some : goal.returns-in-Some
returns-in-Some c =
    let p = at_place c.self.inside.heap c.self.inside.places c.args.h c.in-Some.place c.self.invariant.0 (sym c.in-Some.ensures) in
    let f = c.cell.ensures.found in
    let e : c.min.result ≡ min c.cell.result.json 4611686018427387904 = search rules in
    rw (← c.self.view_is)
    (ap Some (e ∙ held _ _ f.json ∙ ap (λ v. store.json_length (value v)) (sym f.is)) ∙ ap (option_map store.json_length) (sym p.value_is))

pub returns-in-None : goal.returns-in-None
returns-in-None c =
    let inside = subst (λ t. c.args.h < length t.values) (sym c.self.view_is) c.requires in
    let p = no_place c.self.inside.heap c.self.inside.places c.args.h inside (sym c.in-None.ensures) in
    rw (← c.self.view_is) (ap (option_map store.json_length) (sym p))
