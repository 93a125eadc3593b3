-- Proofs of `collecting::collect`: the result meets the contract; each turn of the loop keeps the invariant; its
-- calls meet their requirements.

use Rattle.value_table.proofs.Prelude.{◌≡◌, ◌++◌, ◌∷◌, ◌+◌, ◌≤◌, [], ◌∙◌, drop, drop_all, length, ap, subst, arith, rules, heap_values}
use Rattle.std.specs.List.Sorted.{IsStrictlySortedBy}
use Rattle.std.specs.Map.{keys_of}
use Rattle.review_tables.specs.Members.{str_cmp}
use Rattle.review_tables.proofs.Membered.{next_member}
use Rattle.review_tables.proofs.PlacedMembers.{Collects, collect_step, collect_ends, collected_map, put_collected}
use Rattle.review_tables.proofs.collecting.collect.Goals as goal

pub loop-key-preserved : goal.loop-key-preserved
loop-key-preserved c =
    let l = c.loop-key in
    let us = c.entries-key-items in
    let all = c.args.found.now.entries in
    let vs = heap_values c.args.heap.now in
    let first = next_member all us.result.now l.key-index _ c.in-Some.member us.ensures.value (omega arith) c.in-Some.is in
    let go = subst (λ es. Collects all vs l.heap.backings.bytes l.keys.items l.places.items l.size es) first l.invariant.members in
    let part = c.in_ok-add_key.ensures.part in
    let more : c.push.new.self.items ≡ l.keys.items ++ c.in_ok-add_key.field-0 ∷ [] = search rules in
    let added : c.push-in-loop-key.new.self.items ≡ l.places.items ++ c.in_ok-at.at ∷ [] = search rules in
    let pushed = added ∙ ap (λ p. l.places.items ++ p ∷ []) c.in_ok-at.ensures in
    record {
      heap = c.add_key.ensures.heap;
      values = c.add_key.ensures.values ∙ l.invariant.values;
      members = collect_step all vs l.heap c.add_key.new.self l.keys.items c.push.new.self.items l.places.items c.push-in-loop-key.new.self.items l.size c.entry_size-size.result _ c.in-Some.member (drop (l.key-index + 1) all) c.in_ok-add_key.field-0 go c.add_key.ensures.grown part.0 part.1 more pushed c.entry_size-size.ensures;
    }

pub add_map-requires-clause-ordered : goal.add_map-requires-clause-ordered
add_map-requires-clause-ordered c =
    let l = c.loop-key in
    let us = c.entries-key-items in
    let all = c.args.found.now.entries in
    let order : IsStrictlySortedBy str_cmp (keys_of all) = subst (λ es. IsStrictlySortedBy str_cmp (keys_of es)) us.ensures.value us.ensures.ordered in
    let over : length all ≤ l.key-index = omega (arith, ap length us.ensures.value) in
    let done = collect_ends all (heap_values c.args.heap.now) l.heap.backings.bytes l.keys.items l.places.items l.size (drop l.key-index all) l.invariant.members (drop_all l.key-index all over) order in
    collected_map all (heap_values c.args.heap.now) (heap_values l.heap) l.heap.backings.bytes l.keys.items c.deref.result.now l.places.items c.deref-2.result.now l.size done l.invariant.values c.deref.ensures.value c.deref-2.ensures.value

pub returns : goal.returns
returns c =
    let l = c.loop-key in
    let us = c.entries-key-items in
    let all = c.args.found.now.entries in
    let order : IsStrictlySortedBy str_cmp (keys_of all) = subst (λ es. IsStrictlySortedBy str_cmp (keys_of es)) us.ensures.value us.ensures.ordered in
    let over : length all ≤ l.key-index = omega (arith, ap length us.ensures.value) in
    let done = collect_ends all (heap_values c.args.heap.now) l.heap.backings.bytes l.keys.items l.places.items l.size (drop l.key-index all) l.invariant.members (drop_all l.key-index all over) order in
    put_collected c.args.heap.now l.heap c.add_map.new.self all l.keys.items c.deref.result.now l.places.items c.deref-2.result.now l.size c.in_ok-place.place done l.invariant.values c.deref.ensures.value c.deref-2.ensures.value (grind arith)
