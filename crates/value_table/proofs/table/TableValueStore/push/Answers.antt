-- Proofs of `table::TableValueStore::push`: it terminates; its values keep their invariants.

use Rattle.value_table.proofs.Prelude.{ap}
use Rattle.value_table.proofs.Named.{added_sound, push_due}
use Rattle.value_table.proofs.table.TableValueStore.push.Goals as goal

pub invariant_of-self-2 : goal.invariant_of-self-2
invariant_of-self-2 c =
    let before = ap (λ t. t.values) c.self.view_is in
    let due = push_due before c.place-list.ensures c.place-item.ensures in
    (added_sound due c.requires c.self.invariant.0 c.in_ok-place.ensures.gained c.in_ok-places.ensures.items c.append.ensures.items, c.self.invariant.1)
