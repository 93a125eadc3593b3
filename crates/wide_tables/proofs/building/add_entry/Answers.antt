-- Proof obligations of `building::add_entry`.
use Rattle.std.proofs.Common.{refl, sym, subst, Option, IsSome}
use Rattle.value_store.specs.Value.{Value, text}
use Rattle.wide_tables.proofs.Added.{appended, entry_added, put_same}
use Rattle.wide_tables.proofs.building.add_entry.Goals as goal

pub put-requires : goal.put-requires
put-requires c =
    let name = appended c.args.table.now c.place_text.new.self (text c.args.key.now) _ refl c.in_ok-name.ensures.placed c.in_ok-name.ensures.charge in
    subst (λ (o : Option Value). IsSome o) (sym (put_same c.args.table.now c.place_text.new.self c.args.entries _ c.args.of c.args.key.now name c.requires.entries c.requires.of)) c.requires.fits

pub returns : goal.returns
returns c = λ es v e g.
    let name = appended c.args.table.now c.place_text.new.self (text c.args.key.now) _ refl c.in_ok-name.ensures.placed c.in_ok-name.ensures.charge in
    entry_added c.args.table.now c.place_text.new.self c.args.entries _ c.args.of c.args.key.now name c.put.new.self c.put.result es v e g c.put.ensures.placed c.put.ensures.charge
