-- Proofs of `table::TableValueStore::join`: it terminates; its values keep their invariants.

use Rattle.value_table.proofs.Prelude.{ap}
use Rattle.value_table.proofs.Named.{added_sound, join_due}
use Rattle.value_table.proofs.table.TableValueStore.join.Goals as goal

pub invariant_of-self-2 : goal.invariant_of-self-2
invariant_of-self-2 c =
    let before = ap (λ t. t.values) c.self.view_is in
    let due = join_due before c.place-first.ensures c.place-second.ensures in
    (added_sound due c.requires c.self.invariant.0 c.in_ok-place.ensures c.in_ok-places.ensures.items c.append.ensures.items, c.self.invariant.1)
