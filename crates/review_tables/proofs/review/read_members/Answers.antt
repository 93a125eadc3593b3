-- Proofs of `review::read_members`: the result meets the contract; the loop invariant holds at first and is kept.

use Rattle.value_table.proofs.Prelude.{◌≡◌, Some, None, arith, heap_values}
use Rattle.json.specs.Json.{read_key}
use Rattle.value_table.proofs.Growing.{grown_more, grown_none}
use Rattle.review_tables.proofs.Turns.{key_refused, member_refused}
use Rattle.review_tables.proofs.ReviewReading.{so_far_start, so_far_turn, so_far_ends}
use Rattle.review_tables.proofs.review.read_members.Goals as goal

pub members-init : goal.members-init
members-init c = record { heap = c.requires; grown = grown_none (heap_values c.args.heap.now); found = so_far_start 126 c.args.reader.now (heap_values c.args.heap.now) }

pub returns-in_err-key-clause-refused : goal.returns-in_err-key-clause-refused
returns-in_err-key-clause-refused c refused =
    let l = c.members in key_refused 126 c.args.reader.now l.reader l.invariant.found.found l.invariant.found.so_far c.in_err-key.ensures.value

pub members-preserved : goal.members-preserved
members-preserved c =
    let l = c.members in
    let named : read_key l.reader ≡ Some (Some c.in-Some.key.now, c.next_key.new.self) = grind arith in
    let done = c.in_ok-read_member.ensures in
    record {
      heap = done.read.heap;
      grown = grown_more (heap_values c.args.heap.now) (heap_values l.heap) (heap_values c.read_member.new.heap) l.invariant.grown done.read.grown;
      found = so_far_turn 126 c.args.reader.now l.reader c.next_key.new.self c.read_member.new.reader l.heap c.read_member.new.heap c.in-Some.key.now l.found c.read_member.new.found l.invariant.found named done.read done.shorter;
    }

pub returns-in_err-read_member-clause-refused : goal.returns-in_err-read_member-clause-refused
returns-in_err-read_member-clause-refused c refused =
    let l = c.members in
    let named : read_key l.reader ≡ Some (Some c.in-Some.key.now, c.next_key.new.self) = grind arith in
    member_refused 126 c.args.reader.now l.reader l.invariant.found.found l.invariant.found.so_far c.next_key.new.self c.in-Some.key.now named (c.read_member.ensures.refused (grind arith))

pub returns-clause-read : goal.returns-clause-read
returns-clause-read c =
    let l = c.members in
    let over : read_key l.reader ≡ Some (None, c.next_key.new.self) = grind arith in
    so_far_ends 126 c.args.reader.now l.reader c.next_key.new.self c.args.heap.now l.heap l.found l.invariant.found l.invariant.heap l.invariant.grown over
