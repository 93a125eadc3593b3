-- Loop invariants of `texts::texts`.

use Rattle.tree_code.proofs.Prelude.{◌≡◌, ◌++◌, drop, string_bytes, core_view, cores, core_entries, core_pair, plain_trees, plain_entries, texts_of_each, texts_of_entries, HaveLiterals, EntriesHaveLiterals}
use Rattle.std.specs.Prelude as list
use Rattle.tree_code.proofs.texts.+texts.Given as goal

abbrev pub invariant-add_parts-loop-part : goal.invariant-add_parts-loop-part
invariant-add_parts-loop-part l = record {
  so_far : list.map string_bytes l.texts.items ++ texts_of_each (cores (list.map core_view (drop l.part-index l.parts))) ≡ list.map string_bytes l.initial.texts.items ++ texts_of_each (cores (list.map core_view l.parts));
  literals : HaveLiterals (plain_trees (cores (list.map core_view (drop l.part-index l.parts)))) → HaveLiterals (plain_trees (cores (list.map core_view l.parts)));
}

abbrev pub invariant-add_entries-loop-key : goal.invariant-add_entries-loop-key
invariant-add_entries-loop-key l = record {
  so_far : list.map string_bytes l.texts.items ++ texts_of_entries (core_entries (list.map core_pair (drop l.key-index l.pairs))) ≡ list.map string_bytes l.initial.texts.items ++ texts_of_entries (core_entries (list.map core_pair l.pairs));
  literals : EntriesHaveLiterals (plain_entries (core_entries (list.map core_pair (drop l.key-index l.pairs)))) → EntriesHaveLiterals (plain_entries (core_entries (list.map core_pair l.pairs)));
}
