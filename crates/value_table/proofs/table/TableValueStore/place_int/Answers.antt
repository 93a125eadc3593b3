-- Proofs of `table::TableValueStore::place_int`: the result meets the contract; it terminates; its values keep their
-- invariants.

use Rattle.value_table.proofs.Prelude.{◌+◌, refl, ap, w64, subst, Ok, to_z-of_z, int, Places, reference_values}
use Rattle.value_table.proofs.Named.{added_placed, added_some}
use Rattle.value_table.proofs.table.TableValueStore.place_int.Goals as goal

pub invariant_of-self-2 : goal.invariant_of-self-2
invariant_of-self-2 c = (added_some c.self.invariant.0 c.in_ok-place.ensures c.in_ok-places.ensures.items c.append.ensures.items, c.self.invariant.1)

pub returns-clause-placed : goal.returns-clause-placed
returns-clause-placed c =
    let before = ap (λ t. t.values) c.self.view_is in
    subst (λ z. Places c.args.self.now.values (int z) (Ok (c.append.result + 1)) (reference_values c.add_int.new.self c.append.new.self.0))
    (to_z-of_z w64 c.args.n c.ranges.n)
    (added_placed _ _ _ _ _ c.args.self.now.values (int _) _ _ before c.self.invariant.0 refl c.in_ok-place.ensures c.in_ok-places.ensures.items
    c.append.ensures.items c.append.ensures.place)
