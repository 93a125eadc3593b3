-- Proofs of `reading::read_value`: the result meets the contract; the loop invariant holds at first and is kept; its
-- calls meet their requirements.

use Rattle.std.proofs.Common.{◌≡◌, ◌-◌, ◌<◌, [], ◌∷◌, length, Some, None, option_map, subst, sym, ap, ap₂, ◌∙◌, refl, arith, rules, append-nil}
use Rattle.std.proofs.lemmas.Result.{IfOk-weaker}
use Rattle.json.specs.Token.{Token}
use Rattle.json.specs.Json.{parse_map, after_end_array, read_key, items, members, value}
use Rattle.json.specs.Reads.{token_of}
use Rattle.json.proofs.Grammar.{value_is, value-begin_array, value-begin_object}
use Rattle.serde_json.specs.Data as json
use Rattle.serde_json.specs.Read.{number_of, of_json, of_members, converted}
use Rattle.serde_json.specs.Find.{as_i64}
use Rattle.value_store.specs.Value as kind
use Rattle.review_tables.proofs.Conversion.{converted_array, converted_object, mapped_some, mapped_none}
use Rattle.value_table.specs.Heap.{heap_values}
use Rattle.review_tables.specs.Reading.{ReadsEntries, ReadsValue, AddsPlaced}
use Rattle.value_table.proofs.Growing.{grown_more}
use Rattle.review_tables.proofs.PlacedMembers.{members_sound}
use Rattle.review_tables.proofs.PlacedValues.{read_as, read_alone}
use Rattle.review_tables.proofs.Turns.{item_refused, key_refused, member_refused}
use Rattle.review_tables.proofs.ReadLoops.{items_start, items_turn, items_read, members_start, members_turn, members_gathered, members_read}
use Rattle.review_tables.proofs.reading.+read_value.Goals as goal

-- ---- lists

pub read_items-items-init : goal.read_items-items-init
read_items-items-init t c = record {
  heap = c.requires;
  grown = ([], sym (append-nil (heap_values c.args.heap.now)));
  items = items_start c.args.depth c.args.reader.now (heap_values c.args.heap.now) (record { places = c.new.result; size = 1; whole = _ }) c.new.ensures.items refl refl;
}

pub read_items-returns-in_err-item-clause-refused : goal.read_items-returns-in_err-item-clause-refused
read_items-returns-in_err-item-clause-refused t c refused =
    let l = c.items in
    let going : (after_end_array l.reader ≡ None) × (c.take_end_array.new.self ≡ l.reader) = grind arith in
    item_refused c.args.depth c.args.reader.now l.reader l.invariant.items.done l.invariant.items.so_far going.0 (rw (← going.1) (c.read_value.ensures.refused (grind arith)))

pub read_items-items-preserved : goal.read_items-items-preserved
read_items-items-preserved t c =
    let l = c.items in
    let going : (after_end_array l.reader ≡ None) × (c.take_end_array.new.self ≡ l.reader) = grind arith in
    let done = c.in_ok-item.ensures in
    let less : length c.read_value.new.reader < length l.reader = rw (← going.1) done.shorter in
    let read : ReadsValue l.heap c.read_value.new.heap c.in_ok-item.item (converted of_json (value c.args.depth l.reader)) c.read_value.new.reader = rw (← going.1) done.read in
    record {
      heap = read.puts.heap;
      grown = grown_more _ _ _ l.invariant.grown read.puts.grown;
      items = items_turn c.args.depth c.args.reader.now l.reader c.read_value.new.reader l.heap c.read_value.new.heap c.in_ok-item.item l.pending c.add_item.new.pending l.invariant.items going.0 read less c.in_ok-add_item.ensures;
    }

pub read_items-returns-clause-read : goal.read_items-returns-clause-read
read_items-returns-clause-read t c =
    let l = c.items in
    let over : after_end_array l.reader ≡ Some c.take_end_array.new.self = grind arith in
    items_read c.args.depth c.args.reader.now l.reader c.take_end_array.new.self c.args.heap.now l.heap c.add_pending.new.heap c.in_ok-add_pending.field-0 l.pending l.invariant.items over l.invariant.grown c.in_ok-add_pending.ensures

-- ---- maps

pub gather_members-members-init : goal.gather_members-members-init
gather_members-members-init t c = record {
  heap = c.requires;
  grown = ([], sym (append-nil (heap_values c.args.heap.now)));
  members = members_start c.args.depth c.args.reader.now (heap_values c.args.heap.now) c.new-found.result.entries c.new-found.ensures;
}

pub gather_members-returns-in_err-key-clause-refused : goal.gather_members-returns-in_err-key-clause-refused
gather_members-returns-in_err-key-clause-refused t c refused =
    let l = c.members in
    key_refused c.args.depth c.args.reader.now l.reader l.invariant.members.found l.invariant.members.so_far c.in_err-key.ensures.value

pub gather_members-returns-in_err-member-clause-refused : goal.gather_members-returns-in_err-member-clause-refused
gather_members-returns-in_err-member-clause-refused t c refused =
    let l = c.members in
    let named : read_key l.reader ≡ Some (Some c.in-Some.key.now, c.next_key.new.self) = grind arith in
    member_refused c.args.depth c.args.reader.now l.reader l.invariant.members.found l.invariant.members.so_far c.next_key.new.self c.in-Some.key.now named (c.read_value.ensures.refused (grind arith))

pub gather_members-members-preserved : goal.gather_members-members-preserved
gather_members-members-preserved t c =
    let l = c.members in
    let named : read_key l.reader ≡ Some (Some c.in-Some.key.now, c.next_key.new.self) = grind arith in
    let done = c.in_ok-member.ensures in
    record {
      heap = done.read.puts.heap;
      grown = grown_more _ _ _ l.invariant.grown done.read.puts.grown;
      members = members_turn c.args.depth c.args.reader.now l.reader c.next_key.new.self c.read_value.new.reader l.heap c.read_value.new.heap c.in-Some.key c.in_ok-member.member l.found.entries c.insert.new.self.entries l.invariant.members named done.read done.shorter c.in_ok-insert.ensures;
    }

pub gather_members-returns-clause-read : goal.gather_members-returns-clause-read
gather_members-returns-clause-read t c =
    let l = c.members in
    let over : read_key l.reader ≡ Some (None, c.next_key.new.self) = grind arith in
    let got = members_gathered c.args.depth c.args.reader.now l.reader c.next_key.new.self c.args.heap.now l.heap l.found.entries l.invariant.members over l.invariant.heap l.invariant.grown in
    let due = converted (λ ms. of_members ms json.no_members) (members (value c.args.depth) (length c.args.reader.now) c.args.reader.now) in
    subst (λ es. ReadsEntries c.args.heap.now l.heap es due c.next_key.new.self) (sym c.in_ok-finish.ensures) got

pub read_members-add_members-requires-clause-sound : goal.read_members-add_members-requires-clause-sound
read_members-add_members-requires-clause-sound t c =
    let g = c.in_ok-found.ensures.read in members_sound (heap_values c.gather_members.new.heap) c.in_ok-found.found.entries g.members g.are

pub read_members-returns-clause-read : goal.read_members-returns-clause-read
read_members-returns-clause-read t c =
    let g = c.in_ok-found.ensures.read in
    members_read c.args.heap.now c.gather_members.new.heap c.add_members.new.heap c.in_ok-add_members.field-0 c.in_ok-found.found.entries _ _ g c.in_ok-add_members.ensures

-- ---- values

pub read_value-returns-in_err-token-clause-refused : goal.read_value-returns-in_err-token-clause-refused
read_value-returns-in_err-token-clause-refused t c refused =
    let empty : c.args.reader.now ≡ [] = grind arith in
    ap (converted of_json) (ap (value c.args.depth) empty ∙ value_is c.args.depth [])

pub read_value-returns-then-depth-eq0-clause-refused : goal.read_value-returns-then-depth-eq0-clause-refused
unfolding value
read_value-returns-then-depth-eq0-clause-refused t c never =
    let first : c.args.reader.now ≡ token_of c.in_ok-token.token ∷ c.next.new.self = grind arith in
    let none : c.args.depth ≡ 0 = omega arith in
    ap (converted of_json) (ap₂ value none (first ∙ ap (λ k. token_of k ∷ c.next.new.self) c.in-BeginArray.is))

pub read_value-returns-then-depth-eq0-2-clause-refused : goal.read_value-returns-then-depth-eq0-2-clause-refused
unfolding value
read_value-returns-then-depth-eq0-2-clause-refused t c never =
    let first : c.args.reader.now ≡ token_of c.in_ok-token.token ∷ c.next.new.self = grind arith in
    let none : c.args.depth ≡ 0 = omega arith in
    ap (converted of_json) (ap₂ value none (first ∙ ap (λ k. token_of k ∷ c.next.new.self) c.in-BeginObject.is))

pub read_value-returns-in_ok-add_text-in-String-clause-read : goal.read_value-returns-in_ok-add_text-in-String-clause-read
read_value-returns-in_ok-add_text-in-String-clause-read t c =
    let first : c.args.reader.now ≡ token_of c.in_ok-token.token ∷ c.next.new.self = grind arith in
    let is : c.args.reader.now ≡ Token.string c.in-String.text.now ∷ c.next.new.self = grind (arith, first) in
    read_alone _ _ _ _ _ (json.string c.in-String.text.now) (ap (converted of_json) (ap (value c.args.depth) is ∙ value_is c.args.depth _)) (search rules)

pub read_value-returns-in_ok-add_bool-in-Bool-clause-read : goal.read_value-returns-in_ok-add_bool-in-Bool-clause-read
read_value-returns-in_ok-add_bool-in-Bool-clause-read t c =
    let first : c.args.reader.now ≡ token_of c.in_ok-token.token ∷ c.next.new.self = grind arith in
    let is : c.args.reader.now ≡ Token.boolean c.in-Bool.truth ∷ c.next.new.self = grind (arith, first) in
    read_alone _ _ _ _ _ (json.boolean c.in-Bool.truth) (ap (converted of_json) (ap (value c.args.depth) is ∙ value_is c.args.depth _)) (search rules)

pub read_value-returns-in_ok-add_null-in-Null-clause-read : goal.read_value-returns-in_ok-add_null-in-Null-clause-read
read_value-returns-in_ok-add_null-in-Null-clause-read t c =
    let first : c.args.reader.now ≡ token_of c.in_ok-token.token ∷ c.next.new.self = grind arith in
    let is : c.args.reader.now ≡ Token.null ∷ c.next.new.self = grind (arith, first) in
    read_alone _ _ _ _ _ json.null (ap (converted of_json) (ap (value c.args.depth) is ∙ value_is c.args.depth _)) (search rules)

pub read_value-returns-in-EndObject-clause-refused : goal.read_value-returns-in-EndObject-clause-refused
read_value-returns-in-EndObject-clause-refused t c refused =
    let first : c.args.reader.now ≡ token_of c.in_ok-token.token ∷ c.next.new.self = grind arith in
    let none : value c.args.depth c.args.reader.now ≡ None = rw (value_is c.args.depth c.args.reader.now, first) (grind arith) in
    ap (converted of_json) none

pub read_value-returns-else-depth-eq0-clause-read : goal.read_value-returns-else-depth-eq0-clause-read
read_value-returns-else-depth-eq0-clause-read t c =
    let first : c.args.reader.now ≡ token_of c.in_ok-token.token ∷ c.next.new.self = grind arith in
    let opened = ap (converted of_json) (ap (value c.args.depth) (first ∙ ap (λ k. token_of k ∷ c.next.new.self) c.in-BeginArray.is) ∙ value-begin_array c.args.depth c.next.new.self (omega arith)) ∙ converted_array (items (value (c.args.depth - 1)) (length c.next.new.self) c.next.new.self) in
    IfOk-weaker _ _ _ (λ p h. read_as _ _ p _ _ _ opened h) c.read_items.ensures.read

pub read_value-returns-else-depth-eq0-clause-refused : goal.read_value-returns-else-depth-eq0-clause-refused
read_value-returns-else-depth-eq0-clause-refused t c refused =
    let first : c.args.reader.now ≡ token_of c.in_ok-token.token ∷ c.next.new.self = grind arith in
    let opened = ap (converted of_json) (ap (value c.args.depth) (first ∙ ap (λ k. token_of k ∷ c.next.new.self) c.in-BeginArray.is) ∙ value-begin_array c.args.depth c.next.new.self (omega arith)) ∙ converted_array (items (value (c.args.depth - 1)) (length c.next.new.self) c.next.new.self) in
    opened ∙ ap (parse_map json.array) (c.read_items.ensures.refused refused)

pub read_value-returns-else-depth-eq0-2-clause-read : goal.read_value-returns-else-depth-eq0-2-clause-read
read_value-returns-else-depth-eq0-2-clause-read t c =
    let first : c.args.reader.now ≡ token_of c.in_ok-token.token ∷ c.next.new.self = grind arith in
    let opened = ap (converted of_json) (ap (value c.args.depth) (first ∙ ap (λ k. token_of k ∷ c.next.new.self) c.in-BeginObject.is) ∙ value-begin_object c.args.depth c.next.new.self (omega arith)) ∙ converted_object (members (value (c.args.depth - 1)) (length c.next.new.self) c.next.new.self) in
    IfOk-weaker _ _ _ (λ p h. read_as _ _ p _ _ _ opened h) c.read_members.ensures.read

pub read_value-returns-else-depth-eq0-2-clause-refused : goal.read_value-returns-else-depth-eq0-2-clause-refused
read_value-returns-else-depth-eq0-2-clause-refused t c refused =
    let first : c.args.reader.now ≡ token_of c.in_ok-token.token ∷ c.next.new.self = grind arith in
    let opened = ap (converted of_json) (ap (value c.args.depth) (first ∙ ap (λ k. token_of k ∷ c.next.new.self) c.in-BeginObject.is) ∙ value-begin_object c.args.depth c.next.new.self (omega arith)) ∙ converted_object (members (value (c.args.depth - 1)) (length c.next.new.self) c.next.new.self) in
    opened ∙ ap (parse_map json.object) (c.read_members.ensures.refused refused)

pub read_value-returns-in_ok-add_int-in-Some-clause-read : goal.read_value-returns-in_ok-add_int-in-Some-clause-read
read_value-returns-in_ok-add_int-in-Some-clause-read t c =
    let first : c.args.reader.now ≡ token_of c.in_ok-token.token ∷ c.next.new.self = grind arith in
    let is : c.args.reader.now ≡ Token.number c.in-Number.text.now ∷ c.next.new.self = grind (arith, first) in
    let n = mapped_some as_i64 (number_of c.in-Number.text.now) c.in-Some.n (sym c.number.ensures ∙ c.in-Some.is) in
    let put = subst (λ m. AddsPlaced c.args.heap.now c.add_int.new.heap c.in_ok-add_int-in-Some.field-0 (option_map kind.int m)) (sym n.2) c.in_ok-add_int-in-Some.ensures in
    read_alone _ _ _ _ _ (json.number n.0) (ap (converted of_json) (ap (value c.args.depth) is ∙ value_is c.args.depth _) ∙ ap (λ o. option_map (λ d. (d, c.next.new.self)) (option_map json.number o)) n.1) put

pub read_value-returns-in-None-clause-refused : goal.read_value-returns-in-None-clause-refused
read_value-returns-in-None-clause-refused t c refused =
    let first : c.args.reader.now ≡ token_of c.in_ok-token.token ∷ c.next.new.self = grind arith in
    let is : c.args.reader.now ≡ Token.number c.in-Number.text.now ∷ c.next.new.self = grind (arith, first) in
    let none = mapped_none as_i64 (number_of c.in-Number.text.now) (sym c.number.ensures ∙ c.in-None.is) in
    ap (converted of_json) (ap (value c.args.depth) is ∙ value_is c.args.depth _) ∙ ap (λ o. option_map (λ d. (d, c.next.new.self)) (option_map json.number o)) none
