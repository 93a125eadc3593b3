-- Proofs of `table::TableValueStore::alias_key`: the result meets the contract; it terminates; its values keep their
-- invariants.

use Rattle.value_table.proofs.Prelude.{◌+◌, refl, ap, sym, subst, Ok, Option, IfSome, Value, text, Places, reference_values}
use Rattle.value_table.proofs.Named.{added_placed, added_some, key_due}
use Rattle.value_table.proofs.table.TableValueStore.alias_key.Goals as goal

pub invariant_of-self-2 : goal.invariant_of-self-2
invariant_of-self-2 c = (added_some c.self.invariant.0 c.in_ok-place.ensures c.in_ok-places.ensures.items c.append.ensures.items, c.self.invariant.1)

pub returns-clause-placed : goal.returns-clause-placed
returns-clause-placed c =
    let before = ap (λ t. t.values) c.self.view_is in
    let after = reference_values c.add_part.new.self c.append.new.self.0 in
    let Placed = λ (o : Option Value). IfSome o (λ v. Places c.args.self.now.values v (Ok (c.append.result + 1)) after) in
    subst Placed (sym (key_due c.args.i _ before c.place-map.ensures c.key-key.ensures.value).same)
    (added_placed _ _ _ _ _ c.args.self.now.values (text _) _ _ before c.self.invariant.0 refl c.in_ok-place.ensures c.in_ok-places.ensures.items
    c.append.ensures.items c.append.ensures.place)
