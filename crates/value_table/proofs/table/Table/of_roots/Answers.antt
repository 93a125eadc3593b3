-- Proofs of `table::Table::of_roots`: the result meets the contract.

use Rattle.value_table.proofs.Prelude.{map, view}
use Rattle.value_table.proofs.Starting.{due_with}
use Rattle.value_table.proofs.table.Table.of_roots.Goals as goal

pub returns : goal.returns
returns c = due_with (map view c.args.roots.now) _ _ _ c.in_ok-charge.ensures.charge c.in_ok-copies.ensures c.in_ok-table.ensures
