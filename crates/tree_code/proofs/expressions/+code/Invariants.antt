-- Loop invariants and the termination measures of `expressions::code`.

use Rattle.tree_code.proofs.Prelude.{◌≡◌, ◌+◌, ◌*◌, ◌≤◌, ◌++◌, drop, core_view, cores, core_entries, core_pair, needs, entries_need, nodes, nodes_of, entries_nodes, items_code, entries_code, list_front, words_of, texts_within, routines_within, word_limit, slot_reach, part_slots_per_node, callee_view}
use Rattle.std.specs.Prelude as list
use Rattle.cel_macros.specs.CoreTree as core
use Rattle.tree_code.proofs.expressions.+code.Given as goal

abbrev pub decreases-code_of : goal.decreases-code_of
decreases-code_of l = 5 * nodes (core_view l.core.now) + 2

abbrev pub decreases-part : goal.decreases-part
decreases-part l = 5 * nodes (core_view l.core.now) + 3

abbrev pub decreases-operand : goal.decreases-operand
decreases-operand l = 5 * nodes (core_view l.core.now) + 4

abbrev pub decreases-list : goal.decreases-list
decreases-list l = 5 * nodes (core.list (cores (list.map core_view l.parts.now))) + 1

abbrev pub decreases-map : goal.decreases-map
decreases-map l = 5 * nodes (core.map (core_entries (list.map core_pair l.pairs.now))) + 1

abbrev pub decreases-call : goal.decreases-call
decreases-call l = 5 * nodes (core.call (callee_view l.callee.now) (cores (list.map core_view l.arguments.now))) + 1

abbrev pub decreases-method : goal.decreases-method
decreases-method l = 5 * nodes (core.method (core_view l.of.now) (callee_view l.callee.now) (cores (list.map core_view l.arguments.now))) + 1

abbrev pub decreases-operands : goal.decreases-operands
decreases-operands l = 5 * nodes (core.index (core_view l.left.now) (core_view l.right.now))

abbrev pub decreases-select : goal.decreases-select
decreases-select l = 5 * nodes (core.select (core_view l.of.now) l.field.now) + 1

abbrev pub decreases-index : goal.decreases-index
decreases-index l = 5 * nodes (core.index (core_view l.of.now) (core_view l.at.now)) + 1

abbrev pub decreases-binary : goal.decreases-binary
decreases-binary l = 5 * nodes (core.binary l.op (core_view l.left.now) (core_view l.right.now)) + 1

abbrev pub decreases-ternary : goal.decreases-ternary
decreases-ternary l = 5 * nodes (core.ternary (core_view l.test.now) (core_view l.yes.now) (core_view l.no.now)) + 1

abbrev pub decreases-fold : goal.decreases-fold
decreases-fold l = 5 * nodes (core.fold l.found l.over.name.now (core_view l.over.range.now) (core_view l.body.now)) + 1

abbrev pub decreases-fold_map : goal.decreases-fold_map
decreases-fold_map l = 5 * nodes (core.fold_map l.over.name.now (core_view l.over.range.now) (core_view l.test.now) (core_view l.body.now)) + 1

abbrev pub invariant-list-loop-item : goal.invariant-list-loop-item
invariant-list-loop-item l =
    let ts = texts_within l.position.around.now in
    let rs = routines_within l.position.around.now in
    let ws = words_of l.position.words.now in
    let all = cores (list.map core_view l.parts) in
    let rest = cores (list.map core_view (drop l.item-index l.parts)) in
    record {
      so_far : l.items.items ++ items_code rest ts rs ws l.position.word l.slot ≡ items_code all ts rs ws l.position.word (l.position.slot + list_front l.kept + 2);
      room : l.position.word + 1 + needs rest ≤ word_limit;
      fewer : nodes_of rest ≤ nodes_of all;
      near : l.slot + part_slots_per_node * nodes_of rest ≤ slot_reach;
    }

abbrev pub invariant-map-loop-key : goal.invariant-map-loop-key
invariant-map-loop-key l =
    let ts = texts_within l.position.around.now in
    let rs = routines_within l.position.around.now in
    let ws = words_of l.position.words.now in
    let all = core_entries (list.map core_pair l.pairs) in
    let rest = core_entries (list.map core_pair (drop l.key-index l.pairs)) in
    record {
      so_far : l.entries.items ++ entries_code rest ts rs ws l.position.word l.slot ≡ entries_code all ts rs ws l.position.word (l.position.slot + 2);
      room : l.position.word + entries_need rest ≤ word_limit;
      fewer : entries_nodes rest ≤ entries_nodes all;
      near : l.slot + part_slots_per_node * entries_nodes rest ≤ slot_reach;
    }
