-- Proofs of `checking::check_value`: the result meets the contract; the loop invariant holds at first and is kept.

use Rattle.std.proofs.Common.{◌≡◌, ◌-◌, ◌<◌, [], ◌∷◌, length, Some, None, option_map, sym, ap, ap₂, ◌∙◌, arith}
use Rattle.json.specs.Json.{parse_map, after_end_array, read_key, items, members, value}
use Rattle.json.specs.Reads.{token_of}
use Rattle.json.proofs.Grammar.{value_is, value-begin_array, value-begin_object}
use Rattle.serde_json.specs.Data as json
use Rattle.serde_json.specs.Find.{as_i64}
use Rattle.serde_json.specs.Read.{number_of, of_json, of_items, of_members, converted}
use Rattle.review_tables.specs.Reading.{LeavesTokens}
use Rattle.review_tables.proofs.Conversion.{converted_array, converted_object, mapped_none}
use Rattle.review_tables.proofs.Turns.{item_refused, key_refused, member_refused}
use Rattle.review_tables.proofs.CheckLoops.{items_turn, items_checked, members_start, members_turn, members_checked, err_so, err_weaker, ok_weaker, leaves_map, leaves_as, numbered, number_there}
use Rattle.review_tables.proofs.checking.+check_value.Goals as goal

pub check_items-items-preserved : goal.check_items-items-preserved
check_items-items-preserved t c =
    let l = c.items in
    let going : (after_end_array l.reader ≡ None) × (c.take_end_array.new.self ≡ l.reader) = grind arith in
    let done = c.in_ok-check_value.ensures in
    let less : length c.check_value.new.reader < length l.reader = rw (← going.1) done.shorter in
    let read : LeavesTokens (converted of_json (value c.args.depth l.reader)) c.check_value.new.reader = rw (← going.1) done.read in
    items_turn c.args.depth c.args.reader.now l.reader c.check_value.new.reader l.invariant going.0 read less

pub check_items-returns-in_err-check_value-clause-refused : goal.check_items-returns-in_err-check_value-clause-refused
check_items-returns-in_err-check_value-clause-refused t c =
    let l = c.items in
    let going : (after_end_array l.reader ≡ None) × (c.take_end_array.new.self ≡ l.reader) = grind arith in
    err_so _ _ (item_refused c.args.depth c.args.reader.now l.reader l.invariant.done l.invariant.so_far going.0 (rw (← going.1) c.in_err-check_value.ensures.refused))

pub check_items-returns-clause-read : goal.check_items-returns-clause-read
check_items-returns-clause-read t c =
    let l = c.items in
    let over : after_end_array l.reader ≡ Some c.take_end_array.new.self = grind arith in
    items_checked c.args.depth c.args.reader.now l.reader c.take_end_array.new.self l.invariant over

pub check_members-members-init : goal.check_members-members-init
check_members-members-init t c = members_start c.args.depth c.args.reader.now

pub check_members-returns-in_err-_key-clause-refused : goal.check_members-returns-in_err-_key-clause-refused
check_members-returns-in_err-_key-clause-refused t c =
    let l = c.members in err_so _ _ (key_refused c.args.depth c.args.reader.now l.reader l.invariant.found l.invariant.so_far c.in_err-_key.ensures.value)

pub check_members-members-preserved : goal.check_members-members-preserved
check_members-members-preserved t c =
    let l = c.members in
    let named : read_key l.reader ≡ Some (Some c.in-Some._key.now, c.next_key.new.self) = grind arith in
    let done = c.in_ok-check_value.ensures in
    members_turn c.args.depth c.args.reader.now l.reader c.next_key.new.self c.check_value.new.reader c.in-Some._key.now l.invariant named done.read done.shorter

pub check_members-returns-in_err-check_value-clause-refused : goal.check_members-returns-in_err-check_value-clause-refused
check_members-returns-in_err-check_value-clause-refused t c =
    let l = c.members in
    let named : read_key l.reader ≡ Some (Some c.in-Some._key.now, c.next_key.new.self) = grind arith in
    err_so _ _ (member_refused c.args.depth c.args.reader.now l.reader l.invariant.found l.invariant.so_far c.next_key.new.self c.in-Some._key.now named c.in_err-check_value.ensures.refused)

pub check_members-returns-clause-read : goal.check_members-returns-clause-read
check_members-returns-clause-read t c =
    let l = c.members in
    let over : read_key l.reader ≡ Some (None, c.next_key.new.self) = grind arith in
    members_checked c.args.depth c.args.reader.now l.reader c.next_key.new.self l.invariant over

pub check_token-returns-then-depth-eq0-clause-refused : goal.check_token-returns-then-depth-eq0-clause-refused
unfolding value
check_token-returns-then-depth-eq0-clause-refused t c =
    let none : c.args.depth ≡ 0 = omega arith in
    ap (converted of_json) (ap₂ value none (ap (λ k. token_of k ∷ c.args.reader.now) c.in-BeginArray.is))

pub check_token-returns-then-depth-eq0-2-clause-refused : goal.check_token-returns-then-depth-eq0-2-clause-refused
unfolding value
check_token-returns-then-depth-eq0-2-clause-refused t c =
    let none : c.args.depth ≡ 0 = omega arith in
    ap (converted of_json) (ap₂ value none (ap (λ k. token_of k ∷ c.args.reader.now) c.in-BeginObject.is))

pub check_token-returns-in-Some-clause-read : goal.check_token-returns-in-Some-clause-read
check_token-returns-in-Some-clause-read t c =
    let is = ap (λ k. token_of k ∷ c.args.reader.now) c.in-Number.is in
    leaves_as _ _ _ (ap (converted of_json) (ap (value c.args.depth) is ∙ value_is c.args.depth _)) (numbered (number_of c.in-Number.text.now) c.args.reader.now (number_there as_i64 (number_of c.in-Number.text.now) _ (sym c.in-Some.is ∙ c.number.ensures)))

pub check_token-returns-in-None-clause-refused : goal.check_token-returns-in-None-clause-refused
check_token-returns-in-None-clause-refused t c =
    let is = ap (λ k. token_of k ∷ c.args.reader.now) c.in-Number.is in
    let none = mapped_none as_i64 (number_of c.in-Number.text.now) (sym c.number.ensures ∙ c.in-None.is) in
    ap (converted of_json) (ap (value c.args.depth) is ∙ value_is c.args.depth _) ∙ ap (λ o. option_map (λ d. (d, c.args.reader.now)) (option_map json.number o)) none

pub check_token-returns-in-EndObject-clause-refused : goal.check_token-returns-in-EndObject-clause-refused
check_token-returns-in-EndObject-clause-refused t c =
    let none : value c.args.depth (token_of c.args.token ∷ c.args.reader.now) ≡ None = rw (value_is c.args.depth (token_of c.args.token ∷ c.args.reader.now)) (grind arith) in
    ap (converted of_json) none

pub check_token-returns-in-String-clause-read : goal.check_token-returns-in-String-clause-read
check_token-returns-in-String-clause-read t c =
    let is = ap (λ k. token_of k ∷ c.args.reader.now) c.in-String.is in
    (json.string c.in-String._text.now, ap (converted of_json) (ap (value c.args.depth) is ∙ value_is c.args.depth _))

pub check_token-returns-in-Bool-clause-read : goal.check_token-returns-in-Bool-clause-read
check_token-returns-in-Bool-clause-read t c =
    let is = ap (λ k. token_of k ∷ c.args.reader.now) c.in-Bool.is in
    (json.boolean c.in-Bool._truth, ap (converted of_json) (ap (value c.args.depth) is ∙ value_is c.args.depth _))

pub check_token-returns-in-Null-clause-read : goal.check_token-returns-in-Null-clause-read
check_token-returns-in-Null-clause-read t c =
    let is = ap (λ k. token_of k ∷ c.args.reader.now) c.in-Null.is in
    (json.null, ap (converted of_json) (ap (value c.args.depth) is ∙ value_is c.args.depth _))

pub check_token-returns-else-depth-eq0-clause-read : goal.check_token-returns-else-depth-eq0-clause-read
check_token-returns-else-depth-eq0-clause-read t c =
    let rest = c.args.reader.now in
    let opened = ap (converted of_json) (ap (value c.args.depth) (ap (λ k. token_of k ∷ rest) c.in-BeginArray.is) ∙ value-begin_array c.args.depth rest (omega arith)) ∙ converted_array (items (value (c.args.depth - 1)) (length rest) rest) in
    let end = c.check_items.new.reader in
    ok_weaker c.check_items.result (LeavesTokens (converted of_items (items (value (c.args.depth - 1)) (length rest) rest)) end) (LeavesTokens (converted of_json (value c.args.depth (token_of c.args.token ∷ rest))) end) (λ h. leaves_as _ _ end opened (leaves_map json.array _ end h)) c.check_items.ensures.read

pub check_token-returns-else-depth-eq0-clause-refused : goal.check_token-returns-else-depth-eq0-clause-refused
check_token-returns-else-depth-eq0-clause-refused t c =
    let rest = c.args.reader.now in
    let opened = ap (converted of_json) (ap (value c.args.depth) (ap (λ k. token_of k ∷ rest) c.in-BeginArray.is) ∙ value-begin_array c.args.depth rest (omega arith)) ∙ converted_array (items (value (c.args.depth - 1)) (length rest) rest) in
    err_weaker c.check_items.result (converted of_items (items (value (c.args.depth - 1)) (length rest) rest) ≡ None) (converted of_json (value c.args.depth (token_of c.args.token ∷ rest)) ≡ None) (λ h. opened ∙ ap (parse_map json.array) h) c.check_items.ensures.refused

pub check_token-returns-else-depth-eq0-2-clause-read : goal.check_token-returns-else-depth-eq0-2-clause-read
check_token-returns-else-depth-eq0-2-clause-read t c =
    let rest = c.args.reader.now in
    let opened = ap (converted of_json) (ap (value c.args.depth) (ap (λ k. token_of k ∷ rest) c.in-BeginObject.is) ∙ value-begin_object c.args.depth rest (omega arith)) ∙ converted_object (members (value (c.args.depth - 1)) (length rest) rest) in
    let end = c.check_members.new.reader in
    ok_weaker c.check_members.result (LeavesTokens (converted (λ ms. of_members ms json.no_members) (members (value (c.args.depth - 1)) (length rest) rest)) end) (LeavesTokens (converted of_json (value c.args.depth (token_of c.args.token ∷ rest))) end) (λ h. leaves_as _ _ end opened (leaves_map json.object _ end h)) c.check_members.ensures.read

pub check_token-returns-else-depth-eq0-2-clause-refused : goal.check_token-returns-else-depth-eq0-2-clause-refused
check_token-returns-else-depth-eq0-2-clause-refused t c =
    let rest = c.args.reader.now in
    let opened = ap (converted of_json) (ap (value c.args.depth) (ap (λ k. token_of k ∷ rest) c.in-BeginObject.is) ∙ value-begin_object c.args.depth rest (omega arith)) ∙ converted_object (members (value (c.args.depth - 1)) (length rest) rest) in
    err_weaker c.check_members.result (converted (λ ms. of_members ms json.no_members) (members (value (c.args.depth - 1)) (length rest) rest) ≡ None) (converted of_json (value c.args.depth (token_of c.args.token ∷ rest)) ≡ None) (λ h. opened ∙ ap (parse_map json.object) h) c.check_members.ensures.refused

pub check_value-returns-in_err-token-clause-refused : goal.check_value-returns-in_err-token-clause-refused
check_value-returns-in_err-token-clause-refused t c =
    let empty : c.args.reader.now ≡ [] = grind arith in
    err_so _ _ (ap (converted of_json) (ap (value c.args.depth) empty ∙ value_is c.args.depth []))
