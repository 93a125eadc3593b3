-- Loop invariants of the functions of the cycle `is_narrow` (src/widths.rt): what the parts from here on are decides what
-- all are.
use Rattle.std.proofs.Common.{◌≡◌, drop}
use Rattle.wide_indices.specs.Known.{names_in}
use Rattle.wide_indices.proofs.ListSteps.{narrow_items, narrow_entries}
use Rattle.wide_indices.proofs.widths.+is_narrow.Given as goal

abbrev pub invariant-items-loop-item : goal.invariant-items-loop-item
invariant-items-loop-item l = narrow_items (names_in l.names) l.given ≡ narrow_items (names_in l.names) (drop l.item-index l.given)

abbrev pub invariant-entries-loop-value : goal.invariant-entries-loop-value
invariant-entries-loop-value l = narrow_entries (names_in l.names) l.given ≡ narrow_entries (names_in l.names) (drop l.value-index l.given)
