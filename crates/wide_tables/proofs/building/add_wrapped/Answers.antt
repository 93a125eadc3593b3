-- Proof obligations of `building::add_wrapped`.
use Rattle.wide_tables.proofs.Added.{first_entries, first_of, first_fits, second_entries, second_of, second_fits, third_entries, third_of, third_fits, all_added}
use Rattle.wide_tables.proofs.building.add_wrapped.Goals as goal

pub add_entry-requires-clause-entries : goal.add_entry-requires-clause-entries
add_entry-requires-clause-entries c =
    first_entries c.args.table.now c.add_indices.new.table c.new_map.new.self c.args.count c.in_ok-indices.indices c.in_ok-empty.empty c.in_ok-indices.ensures
    c.in_ok-empty.ensures.placed c.in_ok-empty.ensures.charge

pub add_entry-requires-clause-of : goal.add_entry-requires-clause-of
add_entry-requires-clause-of c =
    first_of c.args.table.now c.add_indices.new.table c.new_map.new.self c.args.count c.in_ok-indices.indices c.in_ok-empty.empty c.in_ok-indices.ensures
    c.in_ok-empty.ensures.placed c.in_ok-empty.ensures.charge

pub add_entry-requires-clause-fits : goal.add_entry-requires-clause-fits
add_entry-requires-clause-fits c =
    first_fits c.args.table.now c.add_indices.new.table c.new_map.new.self c.args.count c.in_ok-indices.indices c.in_ok-empty.empty c.in_ok-indices.ensures
    c.in_ok-empty.ensures.placed c.in_ok-empty.ensures.charge

pub add_entry-requires-2-clause-entries : goal.add_entry-requires-2-clause-entries
add_entry-requires-2-clause-entries c =
    second_entries c.args.table.now c.add_indices.new.table c.new_map.new.self c.args.count c.in_ok-indices.indices c.in_ok-empty.empty c.in_ok-indices.ensures
    c.in_ok-empty.ensures.placed c.in_ok-empty.ensures.charge c.add_entry.new.table c.in_ok-tables.tables c.in_ok-tables.ensures

pub add_entry-requires-2-clause-of : goal.add_entry-requires-2-clause-of
add_entry-requires-2-clause-of c =
    second_of c.args.table.now c.add_indices.new.table c.new_map.new.self c.args.count c.in_ok-indices.indices c.in_ok-empty.empty c.in_ok-indices.ensures
    c.in_ok-empty.ensures.placed c.in_ok-empty.ensures.charge c.add_entry.new.table c.in_ok-tables.tables c.in_ok-tables.ensures

pub add_entry-requires-2-clause-fits : goal.add_entry-requires-2-clause-fits
add_entry-requires-2-clause-fits c =
    second_fits c.args.table.now c.add_indices.new.table c.new_map.new.self c.args.count c.in_ok-indices.indices c.in_ok-empty.empty c.in_ok-indices.ensures
    c.in_ok-empty.ensures.placed c.in_ok-empty.ensures.charge c.add_entry.new.table c.in_ok-tables.tables c.in_ok-tables.ensures

pub add_entry-requires-3-clause-entries : goal.add_entry-requires-3-clause-entries
add_entry-requires-3-clause-entries c =
    third_entries c.args.table.now c.add_indices.new.table c.new_map.new.self c.args.count c.in_ok-indices.indices c.in_ok-empty.empty c.in_ok-indices.ensures
    c.in_ok-empty.ensures.placed c.in_ok-empty.ensures.charge c.add_entry.new.table c.in_ok-tables.tables c.in_ok-tables.ensures
    c.add_entry-2.new.table c.in_ok-outer.outer c.in_ok-outer.ensures

pub add_entry-requires-3-clause-of : goal.add_entry-requires-3-clause-of
add_entry-requires-3-clause-of c =
    third_of c.args.table.now c.add_indices.new.table c.new_map.new.self c.args.count c.in_ok-indices.indices c.in_ok-empty.empty c.in_ok-indices.ensures
    c.in_ok-empty.ensures.placed c.in_ok-empty.ensures.charge c.add_entry.new.table c.in_ok-tables.tables c.in_ok-tables.ensures
    c.add_entry-2.new.table c.in_ok-outer.outer c.in_ok-outer.ensures c.args.params c.requires.params

pub add_entry-requires-3-clause-fits : goal.add_entry-requires-3-clause-fits
add_entry-requires-3-clause-fits c =
    third_fits c.args.table.now c.add_indices.new.table c.new_map.new.self c.args.count c.in_ok-indices.indices c.in_ok-empty.empty c.in_ok-indices.ensures
    c.in_ok-empty.ensures.placed c.in_ok-empty.ensures.charge c.add_entry.new.table c.in_ok-tables.tables c.in_ok-tables.ensures
    c.add_entry-2.new.table c.in_ok-outer.outer c.in_ok-outer.ensures c.args.params c.requires.params

pub returns : goal.returns
returns c = λ p is.
    all_added c.args.table.now c.add_indices.new.table c.new_map.new.self c.args.count c.in_ok-indices.indices c.in_ok-empty.empty c.in_ok-indices.ensures
    c.in_ok-empty.ensures.placed c.in_ok-empty.ensures.charge c.add_entry.new.table c.in_ok-tables.tables c.in_ok-tables.ensures
    c.add_entry-2.new.table c.in_ok-outer.outer c.in_ok-outer.ensures c.add_entry-3.new.table c.add_entry-3.result c.args.params p is c.add_entry-3.ensures
