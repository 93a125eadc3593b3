-- Proofs of `expressions::code`: the result meets the contract; each turn of the loop keeps the invariant; its calls
-- meet their requirements.

use Rattle.tree_code.proofs.Prelude.{◌++◌, map, ap, ◌∙◌, arith, core_view, cores, core_entries, core_pair, need, needs, entries_need, nodes, nodes_of, entries_nodes, view_map, item_code, entry_code, ◌+◌, List, Insn, list_code, list_front, routines_within, texts_within, words_of}
use Rattle.tree_code.proofs.KeptLists.{near_list, word_inside}
use Rattle.tree_code.proofs.Walks.{items_end, same_code, words_within, call_of_one, call_of_others, method_of_none, method_of_one, method_of_others, fold_map_of, item_more, entry_more, here}
use Rattle.tree_code.proofs.expressions.+code.Goals as goal
use Rattle.tree_code.proofs.expressions.+code.Goals.{call-in_default-via-then-arguments-lt1, call-in_default-via-else-arguments-lt1+else-arguments-lt2}

pub call-returns-in_ok-of-in-len1 : goal.call-returns-in_ok-of-in-len1
call-returns-in_ok-of-in-len1 t c = grind (arith, call_of_one, same_code)

pub call-returns-in_default : goal.call-returns-in_default
call-returns-in_default t c = grind (arith, call-in_default-via-then-arguments-lt1, call-in_default-via-else-arguments-lt1+else-arguments-lt2, same_code, call_of_others)

pub method-returns-in_ok-of-in-empty : goal.method-returns-in_ok-of-in-empty
method-returns-in_ok-of-in-empty t c = grind (arith, method_of_none, same_code)

pub method-returns-in_ok-left-in-len1 : goal.method-returns-in_ok-left-in-len1
method-returns-in_ok-left-in-len1 t c = grind (arith, method_of_one, same_code)

pub method-returns-in_default : goal.method-returns-in_default
method-returns-in_default t c = grind (arith, same_code, method_of_others)

pub code_of-map-requires : goal.code_of-map-requires
code_of-map-requires t c = grind (arith, view_map)

pub code_of-returns-in-Map : goal.code_of-returns-in-Map
code_of-returns-in-Map t c = grind (arith, view_map, same_code)

pub fold_map-returns : goal.fold_map-returns
fold_map-returns t c = grind (arith, words_within, fold_map_of, same_code)

pub list-loop-item-preserved : goal.list-loop-item-preserved
unfolding nodes need
list-loop-item-preserved t c =
    let rest = here c.args.parts.now c.loop-item.item-index c.item-item.result c.loop-item-test.true c.item-item.is in
    let some = ap (λ l. nodes_of (cores (map core_view l))) rest in
    let most = ap (λ l. needs (cores (map core_view l))) rest in
    record {
      so_far = item_more _ _ _ _ _ c.args.parts.now c.loop-item.item-index c.item-item.result c.loop-item.items.items c.add_item.new.items.items c.in_ok-code.code.items _ c.in_ok-code.slots c.loop-item-test.true c.item-item.is c.in_ok-code.ensures.code c.in_ok-code.ensures.slots (c.in_ok-add_item.ensures ∙ ap (λ l. c.loop-item.items.items ++ item_code l c.args.position.word) c.deref.ensures.value) c.loop-item.invariant.so_far;
      room = omega arith;
      fewer = omega arith;
      near = omega (arith, c.in_ok-code.ensures.short);
    }

pub list-kept_or_made-requires-clause-word : goal.list-kept_or_made-requires-clause-word
list-kept_or_made-requires-clause-word t c =
    word_inside (cores (map core_view c.args.parts.now)) (words_of c.args.position.words.now).lists c.kept_place-kept.result c.kept_place-kept.ensures c.requires.held.1

pub list-kept_or_made-requires-clause-short : goal.list-kept_or_made-requires-clause-short
unfolding nodes
list-kept_or_made-requires-clause-short t c =
    let ts = texts_within c.args.position.around.now in
    let rs = routines_within c.args.position.around.now in
    let ws = words_of c.args.position.words.now in
    let k = c.args.position.word in
    let over = c.loop-item-test.false in
    let code = items_end ts rs ws k c.loop-item.slot c.args.parts.now c.loop-item.item-index c.loop-item.items.items _ (omega arith) c.loop-item.invariant.so_far in
    near_list (cores (map core_view c.args.parts.now)) ts rs ws k (c.args.position.slot + list_front c.kept_place-kept.result) c.loop-item.items.items c.in_ok-made.made.items (c.in_ok-made.ensures ∙ ap (λ (l : List Insn). list_code l k) c.deref-2.ensures.value) code c.requires.short

pub map-loop-key-preserved : goal.map-loop-key-preserved
unfolding nodes need
map-loop-key-preserved t c =
    let rest = here c.args.pairs.now c.loop-key.key-index c.loop-key-item.result c.loop-key-test.true c.loop-key-item.is in
    let some = ap (λ l. entries_nodes (core_entries (map core_pair l))) rest in
    let most = ap (λ l. entries_need (core_entries (map core_pair l))) rest in
    record {
      so_far = entry_more _ _ _ _ _ c.args.pairs.now c.loop-key.key-index c.loop-key-item.result c.loop-key.entries.items c.add_entry.new.entries.items c.in_ok-first.first.items c.in_ok-second.second.items _ c.in_ok-first.slots c.in_ok-second.slots c.loop-key-test.true c.loop-key-item.is c.in_ok-first.ensures.code c.in_ok-first.ensures.slots c.in_ok-second.ensures.code c.in_ok-second.ensures.slots (c.in_ok-add_entry.ensures ∙ (λ j. c.loop-key.entries.items ++ entry_code (c.deref.ensures.value j) (c.deref-in-loop-key.ensures.value j) c.args.position.word)) c.loop-key.invariant.so_far;
      room = omega arith;
      fewer = omega arith;
      near = omega (arith, c.in_ok-first.ensures.short, c.in_ok-second.ensures.short);
    }
