-- Loop invariants of `kept_lists::lists`.

use Rattle.tree_code.proofs.Prelude.{◌≡◌, drop, map, core_view, core_pair, cores, core_entries, lists_view, with_lists_of_each, with_lists_of_entries}
use Rattle.tree_code.proofs.kept_lists.+lists.Given as goal

abbrev pub invariant-add_each-loop-part : goal.invariant-add_each-loop-part
invariant-add_each-loop-part l =
    with_lists_of_each l.inside (lists_view l.lists.items) (cores (map core_view (drop l.part-index l.parts)))
    ≡ with_lists_of_each l.inside (lists_view l.initial.lists.items) (cores (map core_view l.parts))

abbrev pub invariant-add_entries-loop-key : goal.invariant-add_entries-loop-key
invariant-add_entries-loop-key l =
    with_lists_of_entries l.inside (lists_view l.lists.items) (core_entries (map core_pair (drop l.key-index l.pairs)))
    ≡ with_lists_of_entries l.inside (lists_view l.initial.lists.items) (core_entries (map core_pair l.pairs))
