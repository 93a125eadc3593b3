-- Proofs of `table::TableValueStore::place_text`: the result meets the contract; it terminates; its values keep their
-- invariants.

use Rattle.value_table.proofs.Prelude.{refl, ap, text}
use Rattle.value_table.proofs.Named.{added_placed, added_some}
use Rattle.value_table.proofs.table.TableValueStore.place_text.Goals as goal

pub invariant_of-self-2 : goal.invariant_of-self-2
invariant_of-self-2 c = (added_some c.self.invariant.0 c.in_ok-place.ensures c.in_ok-places.ensures.items c.append.ensures.items, c.self.invariant.1)

pub returns-clause-placed : goal.returns-clause-placed
returns-clause-placed c =
    let before = ap (λ t. t.values) c.self.view_is in
    added_placed _ _ _ _ _ c.args.self.now.values (text c.args.s.now) _ _ before c.self.invariant.0 refl c.in_ok-place.ensures c.in_ok-places.ensures.items
    c.append.ensures.items c.append.ensures.place
