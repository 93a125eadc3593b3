-- Loop invariants of the functions of the cycle `faults` (src/faults.rt).
use Rattle.cel_macros.proofs.Prelude.{◌≡◌, drop, view, trees, entries, trees_fault, entries_fault}
use Rattle.std.specs.Prelude as list
use Rattle.cel_macros.proofs.faults.+faults.Given as goal

abbrev pub invariant-test_entries-loop-key : goal.invariant-test_entries-loop-key
invariant-test_entries-loop-key l =
    entries_fault (entries (list.map (λ e. (view e.0, view e.1)) l.pairs)) ≡ entries_fault (entries (list.map (λ e. (view e.0, view e.1)) (drop l.key-index l.pairs)))

abbrev pub invariant-test_list-loop-item : goal.invariant-test_list-loop-item
invariant-test_list-loop-item l = trees_fault (trees (list.map view l.items)) ≡ trees_fault (trees (list.map view (drop l.item-index l.items)))
