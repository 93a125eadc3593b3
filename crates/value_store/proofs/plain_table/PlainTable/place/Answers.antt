-- Proof obligations of `PlainTable::place` (src/plain_table.rt).
use Rattle.value_store.proofs.Prelude.{◌+◌, ◌≤◌, length, arith, result_depth, charge_limit, stored, stored_values}
use Rattle.value_store.specs.declared.node.Node.TheVariants as node
use Rattle.value_store.proofs.Tables.{Stands, pushed_stands}
use Rattle.value_store.proofs.plain_table.PlainTable.place.Goals as goal

pub invariant_of-self : goal.invariant_of-self
invariant_of-self c =
    let now = c.args.self.now in
    let old : Stands (stored_values now.nodes.items) = record { first = now.first; shallow = now.shallow } in
    let fits : result_depth (stored (node.Value c.args.tree)) ≤ charge_limit + length (stored_values now.nodes.items) + 1 = let deep = c.args.tree.deep in omega (arith, c.requires.shallow) in
    let new = pushed_stands _ _ _ _ c.push.ensures.items old fits in
    record { first = new.first; shallow = new.shallow; charged = now.charged }
