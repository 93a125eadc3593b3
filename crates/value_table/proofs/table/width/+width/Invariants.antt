-- Loop invariant and the termination measure of `table::width::width`.
use Rattle.std.proofs.Common.{◌≡◌, max, List, drop}
use Rattle.value_store.specs.Value.{Value}
use Rattle.value_widths.specs.Width.{width_of, widest}
use Rattle.value_table.specs.Equality.{AreMeanings}
use Rattle.value_table.specs.Heads.{values_at}
use Rattle.value_table.specs.Meaning.{value_in}
use Rattle.value_table.proofs.table.width.+width.Given as goal

abbrev pub decreases-width : goal.decreases-width
decreases-width l = l.place

abbrev pub invariant-loop-i : goal.invariant-loop-i
invariant-loop-i l = (vs : List Value) → AreMeanings l.backings vs l.cells
    → max l.widest (widest (values_at vs (drop l.i l.parts))) ≡ width_of (value_in vs l.place)
