-- Loop invariant of `equality::among::is_among`.

use Rattle.value_table.proofs.Prelude.{◌≡◌, List, drop, Value, has_item, value_in, items_at, AreSame}
use Rattle.value_table.specs.Known.{AreKnown}
use Rattle.value_table.proofs.equality.among.is_among.Given as goal

abbrev pub invariant-loop-i : goal.invariant-loop-i
invariant-loop-i l = (vs : List Value) → AreKnown l.backings vs l.cells → AreSame vs l.fn.same
    → AreSame vs l.same × (has_item (value_in vs l.x) (items_at vs l.places) ≡ has_item (value_in vs l.x) (items_at vs (drop l.i l.places)))
