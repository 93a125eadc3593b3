-- Proofs of `heap::Heap::add_key`: the result meets the contract.

use Rattle.value_table.proofs.Prelude.{refl}
use Rattle.value_table.proofs.Adding.{heap_grown, values_grown}
use Rattle.value_table.proofs.heap.Heap.add_key.Goals as goal

pub returns-clause-heap : goal.returns-clause-heap
returns-clause-heap c = heap_grown c.args.self.now _ c.requires c.add_text.ensures.grown refl refl

pub returns-clause-values : goal.returns-clause-values
returns-clause-values c = values_grown c.args.self.now c.add_text.new.self c.args.self.now.cells c.requires c.add_text.ensures.grown refl
