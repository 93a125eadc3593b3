-- Loop invariant of `building::add_indices`.
use Rattle.value_store.specs.Value.{list, items_of}
use Rattle.wide_translation.specs.Indexed.{ints_from}
use Rattle.wide_tables.specs.Building.{HasAdded}
use Rattle.wide_tables.proofs.building.add_indices.Given as goal

abbrev pub invariant-loop-i : goal.invariant-loop-i
invariant-loop-i l = HasAdded l.fn.table l.table l.indices (list (items_of (ints_from 0 l.i)))
