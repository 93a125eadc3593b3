-- Loop invariants and the termination measures of `equality::classes::representative`.

use Rattle.value_table.proofs.Prelude.{◌≡◌, ◌≤◌, List, slice_get, Value, LeadDown, Shortens, way_down, AreSame}
use Rattle.value_table.proofs.equality.classes.representative.Given as goal

abbrev pub invariant-loop-next : goal.invariant-loop-next
invariant-loop-next l = record {
  not_above : l.here ≤ l.place;
  value : (vs : List Value) → AreSame vs l.fn.same → AreSame vs l.same × (slice_get vs l.next ≡ slice_get vs l.here) × (slice_get vs l.here ≡ slice_get vs l.place);
  shorter : LeadDown l.fn.same → Shortens l.fn.same l.same l.place;
  next_is : l.next ≡ way_down (slice_get l.same l.here) l.here;
}

abbrev pub decreases-loop-next : goal.decreases-loop-next
decreases-loop-next l = l.here
