-- Proofs of `table::TableValueStore::len`: the result meets the contract.

use Rattle.value_table.proofs.Prelude.{◌∙◌, sym, heap_values}
use Rattle.value_table.proofs.Named.{count_named, references_ordered}
use Rattle.value_table.proofs.table.TableValueStore.len.Goals as goal

pub returns-clause-count : goal.returns-clause-count
returns-clause-count c = rw (← c.self.view_is) (c.next_reference.ensures ∙ sym (count_named (heap_values c.self.inside.heap) c.self.inside.places))

pub returns-clause-ordered : goal.returns-clause-ordered
returns-clause-ordered c = rw (← c.self.view_is) (references_ordered c.self.inside.heap c.self.inside.places c.self.invariant.0)
