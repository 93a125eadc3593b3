-- Loop invariants of the functions of the cycle `has_narrow_ranges` (src/ranges.rt): what the parts from here on are
-- decides what all are.
use Rattle.std.proofs.Common.{◌≡◌, drop}
use Rattle.wide_indices.specs.Known.{names_in}
use Rattle.wide_indices.proofs.ListSteps.{argument_ranges, item_ranges, entry_ranges}
use Rattle.wide_indices.proofs.ranges.+has_narrow_ranges.Given as goal

abbrev pub invariant-arguments-loop-argument : goal.invariant-arguments-loop-argument
invariant-arguments-loop-argument l =
    argument_ranges (names_in l.names) l.given ≡ argument_ranges (names_in l.names) (drop l.argument-index l.given)

abbrev pub invariant-items-loop-item : goal.invariant-items-loop-item
invariant-items-loop-item l = item_ranges (names_in l.names) l.given ≡ item_ranges (names_in l.names) (drop l.item-index l.given)

abbrev pub invariant-entries-loop-key : goal.invariant-entries-loop-key
invariant-entries-loop-key l = entry_ranges (names_in l.names) l.given ≡ entry_ranges (names_in l.names) (drop l.key-index l.given)
