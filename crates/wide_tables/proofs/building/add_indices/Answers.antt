-- Proof obligations of `building::add_indices`.
use Rattle.std.proofs.Common.{◌≡◌, ℕ, refl, subst, arith, w64}
use Rattle.std.proofs.lemmas.Int.{to_z_pos}
use Rattle.value_store.specs.Value.{list, no_items, items_of}
use Rattle.wide_translation.specs.Indexed.{ints_from}
use Rattle.wide_tables.specs.Building.{HasAdded}
use Rattle.wide_tables.proofs.Added.{appended, index_pushed, is_there, pushed_is}
use Rattle.wide_tables.proofs.building.add_indices.Goals as goal

pub loop-i-init : goal.loop-i-init
loop-i-init c = appended c.args.table.now c.new_list.new.self (list no_items) c.in_ok-indices.indices refl c.in_ok-indices.ensures.placed c.in_ok-indices.ensures.charge

pub push-requires : goal.push-requires
push-requires c =
    let placed = rw (to_z_pos w64 c.loop-i.i (omega arith)) at c.in_ok-index.ensures.placed in
    is_there _ _ (pushed_is c.args.table.now c.loop-i.table c.place_int.new.self c.loop-i.indices c.in_ok-index.index c.loop-i.i c.loop-i.invariant
    placed c.in_ok-index.ensures.charge)

pub loop-i-preserved : goal.loop-i-preserved
loop-i-preserved c =
    let placed = rw (to_z_pos w64 c.loop-i.i (omega arith)) at c.in_ok-index.ensures.placed in
    index_pushed c.args.table.now c.loop-i.table c.place_int.new.self c.loop-i.indices c.in_ok-index.index c.loop-i.i c.loop-i.invariant
    placed c.in_ok-index.ensures.charge c.push.new.self _ c.in_ok-indices-2.ensures.placed c.in_ok-indices-2.ensures.charge

pub returns : goal.returns
returns c =
    let all : c.loop-i.i ≡ c.args.count = omega arith in
    subst (λ (n : ℕ). HasAdded c.args.table.now c.loop-i.table c.loop-i.indices (list (items_of (ints_from 0 n)))) all c.loop-i.invariant
