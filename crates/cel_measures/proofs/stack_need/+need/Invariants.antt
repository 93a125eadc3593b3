-- Loop invariants of `stack_need::need`.

use Rattle.cel_measures.proofs.Prelude.{◌≡◌, max, drop, core_view, cores, core_entries, core_pair, needs, needs_behind, entries_need, saturated}
use Rattle.std.specs.Prelude as list
use Rattle.cel_measures.proofs.stack_need.+need.Given as goal

abbrev pub invariant-greatest_need-loop-part : goal.invariant-greatest_need-loop-part
invariant-greatest_need-loop-part l = record {
  fits : l.most ≡ saturated l.most;
  so_far : saturated (needs (cores (list.map core_view l.parts))) ≡ saturated (max l.most (needs (cores (list.map core_view (drop l.part-index l.parts)))));
}

abbrev pub invariant-need_behind-loop-part : goal.invariant-need_behind-loop-part
invariant-need_behind-loop-part l = record {
  fits : l.most ≡ saturated l.most;
  so_far : saturated (needs_behind (cores (list.map core_view l.parts))) ≡ saturated (max l.most (needs_behind (cores (list.map core_view (drop l.part-index l.parts)))));
}

abbrev pub invariant-entries_need-loop-key : goal.invariant-entries_need-loop-key
invariant-entries_need-loop-key l = record {
  fits : l.most ≡ saturated l.most;
  so_far : saturated (entries_need (core_entries (list.map core_pair l.pairs))) ≡ saturated (max l.most (entries_need (core_entries (list.map core_pair (drop l.key-index l.pairs)))));
}
