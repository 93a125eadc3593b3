-- Loop invariants of `node_count::nodes`.

use Rattle.cel_measures.proofs.Prelude.{◌≡◌, ◌+◌, drop, core_view, cores, core_entries, core_pair, nodes_of, entries_nodes, saturated}
use Rattle.std.specs.Prelude as list
use Rattle.cel_measures.proofs.node_count.+nodes.Given as goal

abbrev pub invariant-parts_nodes-loop-part : goal.invariant-parts_nodes-loop-part
invariant-parts_nodes-loop-part l = record {
  fits : l.total ≡ saturated l.total;
  so_far : saturated (nodes_of (cores (list.map core_view l.parts))) ≡ saturated (l.total + nodes_of (cores (list.map core_view (drop l.part-index l.parts))));
}

abbrev pub invariant-entries_nodes-loop-key : goal.invariant-entries_nodes-loop-key
invariant-entries_nodes-loop-key l = record {
  fits : l.total ≡ saturated l.total;
  so_far : saturated (entries_nodes (core_entries (list.map core_pair l.pairs))) ≡ saturated (l.total + entries_nodes (core_entries (list.map core_pair (drop l.key-index l.pairs))));
}
