-- Loop invariant of `table::rooted::chosen_places`.
use Rattle.std.proofs.Common.{◌++◌, take}
use Rattle.value_store.specs.Placing.{first_values}
use Rattle.value_table.specs.References.{reference_values}
use Rattle.value_table.specs.Rooted.{picked}
use Rattle.value_table.specs.Start.{StartsWithValues}
use Rattle.value_table.proofs.table.rooted.chosen_places.Given as goal

abbrev pub invariant-loop-reference : goal.invariant-loop-reference
invariant-loop-reference l = StartsWithValues l.heap l.chosen (first_values ++ picked (reference_values l.fn.heap l.places) (take l.reference-index l.references))
