-- Proofs of `table::TableValueStore::alias`: the result meets the contract; it terminates; its values keep their
-- invariants.

use Rattle.value_table.proofs.Prelude.{◌∙◌, sym, ap, is_appended}
use Rattle.value_table.proofs.Named.{name_sound, named_part, part_is, unplaced}
use Rattle.value_table.proofs.table.TableValueStore.alias.Goals as goal

pub invariant_of-self-in-None : goal.invariant_of-self-in-None
invariant_of-self-in-None c = (
  name_sound c.self.inside.heap c.self.inside.places c.push.new.self c.part-part.result c.self.invariant.0 c.part-part.ensures.inside
      c.in_ok-push-in-None.ensures.ok,
  c.self.invariant.1,
)

pub returns-in_ok-push-in-None-clause-placed : goal.returns-in_ok-push-in-None-clause-placed
returns-in_ok-push-in-None-clause-placed c =
    let before = ap (λ t. t.values) c.self.view_is in
    let part = part_is c.self.inside.heap c.self.inside.places _ c.args.h c.place-whole.result c.args.i _ before c.place-whole.ensures
    c.part-part.ensures.value in
    let appended = ap is_appended c.cell.ensures.found.is ∙ unplaced _ _ _ (sym c.in-None.ensures) in
    named_part c.self.inside.heap c.self.inside.places _ c.push.new.self _ c.part-part.result c.next_reference-reference.result before part appended
    c.next_reference-reference.ensures c.in_ok-push-in-None.ensures.ok
