-- Loop invariants of `state_items::shapes`.
use Rattle.std.proofs.Common.{take}
use Rattle.cluster_state.specs.Shapes.{ShowAll}
use Rattle.cluster_state.proofs.state_items.shapes.Given as goal

abbrev pub invariant-loop-item : goal.invariant-loop-item
invariant-loop-item l = ShowAll l.shapes (take l.item-index l.items)
