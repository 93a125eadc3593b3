-- Proofs of `documents::add_entries`: the result meets the contract; each turn of the loop keeps the invariant; its
-- calls meet their requirements.

use Rattle.value_table.proofs.Prelude.{◌≡◌, ◌+◌, ◌++◌, ◌∷◌, [], ◌∙◌, map, string_bytes, take, sym, ap, append-nil, arith, rules, map-append, take_all, take_more}
use Rattle.value_table.proofs.Growing.{enters, enters_on, keys_step, entries_stand}
use Rattle.value_table.proofs.documents.add_entries.Goals as goal

pub loop-key-preserved : goal.loop-key-preserved
loop-key-preserved c =
    let l = c.loop-key in
    let xs = c.args.keys.now in
    let x = c.key-item.result in
    let front : take (l.key-index + 1) xs ≡ take l.key-index xs ++ x ∷ [] = take_more xs l.key-index x (omega arith) ∙ ap (λ y. take l.key-index xs ++ y ∷ []) (sym c.key-item.is) in
    let names : map string_bytes (take (l.key-index + 1) xs) ≡ map string_bytes (take l.key-index xs) ++ string_bytes x ∷ [] = ap (map string_bytes) front ∙ map-append string_bytes (take l.key-index xs) (x ∷ []) in
    let pushed : c.push.new.self.items ≡ l.parts.items ++ c.in_ok-add_key.field-0 ∷ [] = search rules in
    let part = c.in_ok-add_key.ensures.part in
    record {
      heap = c.add_key.ensures.heap;
      values = c.add_key.ensures.values ∙ l.invariant.values;
      keys = rw (names, pushed) (keys_step l.heap.backings c.add_key.new.self.backings _ l.parts.items c.in_ok-add_key.field-0 (string_bytes x) c.add_key.ensures.grown part.0 (part.1 ∙ c.as_str.ensures.value) l.invariant.keys);
    }

pub add_map-requires-clause-ordered : goal.add_map-requires-clause-ordered
add_map-requires-clause-ordered c = grind (arith, take_all, entries_stand, string_bytes)

pub returns : goal.returns
returns c = grind (arith, take_all, entries_stand, string_bytes, enters_on, append-nil, enters)
