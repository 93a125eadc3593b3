-- Loop invariants of the functions of the cycle `depth` (src/depth.rt).
use Rattle.std.proofs.Common.{◌≡◌, drop, max, min}
use Rattle.std.specs.Prelude as list
use Rattle.wide_reader.specs.Tree.{entries, entry_view, item_view, items, view, wides}
use Rattle.wide_policy.specs.Depth.{entries_depth, items_depth, wides_depth}
use Rattle.wide_policy.proofs.depth.+depth.Given as goal

abbrev pub invariant-parts_depth-loop-part : goal.invariant-parts_depth-loop-part
invariant-parts_depth-loop-part l = record {
  fits : l.deepest ≡ min l.deepest l.most;
  so_far : min (wides_depth (wides (list.map view l.parts))) l.most ≡ min (max l.deepest (wides_depth (wides (list.map view (drop l.part-index l.parts))))) l.most;
}

abbrev pub invariant-items_depth-loop-part : goal.invariant-items_depth-loop-part
invariant-items_depth-loop-part l = record {
  fits : l.deepest ≡ min l.deepest l.most;
  so_far : min (items_depth (items (list.map item_view l.parts))) l.most ≡ min (max l.deepest (items_depth (items (list.map item_view (drop l.part-index l.parts))))) l.most;
}

abbrev pub invariant-entries_depth-loop-key : goal.invariant-entries_depth-loop-key
invariant-entries_depth-loop-key l = record {
  fits : l.deepest ≡ min l.deepest l.most;
  so_far : min (entries_depth (entries (list.map entry_view l.parts))) l.most ≡ min (max l.deepest (entries_depth (entries (list.map entry_view (drop l.key-index l.parts))))) l.most;
}
