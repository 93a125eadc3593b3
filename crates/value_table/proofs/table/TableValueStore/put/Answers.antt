-- Proofs of `table::TableValueStore::put`: it terminates; its values keep their invariants.

use Rattle.value_table.proofs.Prelude.{ap}
use Rattle.value_table.proofs.Named.{added_sound, put_due}
use Rattle.value_table.proofs.table.TableValueStore.put.Goals as goal

pub invariant_of-self-2 : goal.invariant_of-self-2
invariant_of-self-2 c =
    let before = ap (λ t. t.values) c.self.view_is in
    let due = put_due before c.place-map.ensures c.place-key.ensures c.place-value.ensures in
    (added_sound due c.requires c.self.invariant.0 c.in_ok-place.ensures c.in_ok-places.ensures.items c.append.ensures.items, c.self.invariant.1)
