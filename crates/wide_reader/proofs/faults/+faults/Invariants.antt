-- Loop invariants of the functions of the cycle `faults` (src/faults.rt).
use Rattle.wide_reader.proofs.Prelude.{◌≡◌, drop, view, item_view, entry_view, wides, items, entries}
use Rattle.std.specs.Prelude as list
use Rattle.wide_reader.specs.Faults.{wides_fault, items_fault, entries_fault}
use Rattle.wide_reader.proofs.faults.+faults.Given as goal

abbrev pub invariant-wides_fault-loop-argument : goal.invariant-wides_fault-loop-argument
invariant-wides_fault-loop-argument l = wides_fault (wides (list.map view l.arguments)) ≡ wides_fault (wides (list.map view (drop l.argument-index l.arguments)))

abbrev pub invariant-items_fault-loop-part : goal.invariant-items_fault-loop-part
invariant-items_fault-loop-part l = items_fault (items (list.map item_view l.parts)) ≡ items_fault (items (list.map item_view (drop l.part-index l.parts)))

abbrev pub invariant-entries_fault-loop-key : goal.invariant-entries_fault-loop-key
invariant-entries_fault-loop-key l = entries_fault (entries (list.map entry_view l.parts)) ≡ entries_fault (entries (list.map entry_view (drop l.key-index l.parts)))
