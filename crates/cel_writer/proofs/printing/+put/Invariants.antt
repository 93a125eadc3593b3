-- Loop invariants of the functions of the cycle `put` (src/printing.rt).
use Rattle.std.proofs.Common.{◌≡◌, ◌++◌, drop, string_bytes, true}
use Rattle.cel_writer.proofs.Listing.{entries_left, list_left}
use Rattle.cel_writer.proofs.printing.+put.Given as goal

abbrev pub invariant-put_all-loop-item : goal.invariant-put_all-loop-item
invariant-put_all-loop-item l =
    string_bytes l.out ++ list_left l.is_first (drop l.item-index l.items) ≡ string_bytes l.initial.out ++ list_left true l.items

abbrev pub invariant-put_entries-loop-key : goal.invariant-put_entries-loop-key
invariant-put_entries-loop-key l =
    string_bytes l.out ++ entries_left l.is_first (drop l.key-index l.pairs) ≡ string_bytes l.initial.out ++ entries_left true l.pairs
