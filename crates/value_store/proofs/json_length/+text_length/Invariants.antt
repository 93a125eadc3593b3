-- Loop invariants of the functions of the cycle `text_length` (src/json_length.rt).
use Rattle.value_store.proofs.Prelude.{drop, items_view, members_view}
use Rattle.value_store.proofs.Lengths.{Counts, items_long, members_long}
use Rattle.value_store.proofs.json_length.+text_length.Given as goal

abbrev pub invariant-items_length-loop-item : goal.invariant-items_length-loop-item
invariant-items_length-loop-item l = Counts (items_long (items_view l.item-items)) (items_long (items_view (drop l.item-index l.item-items))) l.length

abbrev pub invariant-members_length-loop-key : goal.invariant-members_length-loop-key
invariant-members_length-loop-key l = Counts (members_long (members_view l.initial.key-iterator)) (members_long (members_view l.key-iterator)) l.length
