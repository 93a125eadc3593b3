-- Proof obligations of `PlainTable::of_roots` (src/plain_table.rt).
use Rattle.value_store.proofs.Prelude.{◌≡◌, map, Err, sym, subst, rules, arith, view, Contents, start_contents, StoreStarts, stored_values, PlainTable}
use Rattle.value_store.proofs.Starting.{refused, opened}
use Rattle.value_store.proofs.plain_table.PlainTable.of_roots.Goals as goal

pub returns-in_err-charge : goal.returns-in_err-charge
returns-in_err-charge c =
    let is : c.from_residual.result ≡ Err c.in_err-charge.field-0.0 = search rules in
    let contents = λ (t : PlainTable). let r : Contents = record { values = stored_values t.nodes.items; charge = t.charge } in r in
    subst (λ r. StoreStarts contents (start_contents (map view c.args.roots.now)) r) (sym is) (refused contents (map view c.args.roots.now) _ c.in_err-charge.ensures.charge)

pub invariant_of-result : goal.invariant_of-result
invariant_of-result c =
    let start = opened c.args.roots.now _ _ c.in_ok-charge.ensures.charge c.in_ok-nodes.ensures in
    record { first = start.stands.first; shallow = start.stands.shallow; charged = c.in_ok-charge.ensures.limit }

pub returns : goal.returns
returns c = grind (arith, opened)
