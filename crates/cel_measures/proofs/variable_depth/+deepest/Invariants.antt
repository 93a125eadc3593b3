-- Loop invariants of `variable_depth::deepest`.

use Rattle.cel_measures.proofs.Prelude.{◌≡◌, max, drop, core_view, cores, core_entries, core_pair, declaration, depths_of, deepest_of, entries_deepest}
use Rattle.std.specs.Prelude as list
use Rattle.cel_measures.proofs.variable_depth.+deepest.Given as goal

abbrev pub invariant-parts_deepest-loop-part : goal.invariant-parts_deepest-loop-part
invariant-parts_deepest-loop-part l =
    let s = depths_of (list.map declaration l.variables) in
    deepest_of (cores (list.map core_view l.parts)) s ≡ max l.most (deepest_of (cores (list.map core_view (drop l.part-index l.parts))) s)

abbrev pub invariant-entries_deepest-loop-key : goal.invariant-entries_deepest-loop-key
invariant-entries_deepest-loop-key l =
    let s = depths_of (list.map declaration l.variables) in
    entries_deepest (core_entries (list.map core_pair l.pairs)) s ≡ max l.most (entries_deepest (core_entries (list.map core_pair (drop l.key-index l.pairs))) s)
