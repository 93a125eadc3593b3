-- Proofs of `requests::request_of`: the result meets the contract; its calls meet their requirements.

use Rattle.value_table.proofs.Prelude.{subst, heap_values}
use Rattle.std.specs.Prelude.{codes}
use Rattle.value_store.specs.Reviews.{without}
use Rattle.review_tables.specs.ReviewReading.{IsUidOf}
use Rattle.review_tables.proofs.PlacedMembers.{members_sound}
use Rattle.review_tables.proofs.RequestReading.{request_made, request_none}
use Rattle.review_tables.proofs.requests.request_of.Goals as goal

pub take-requires-2 : goal.take-requires-2
take-requires-2 c = record { heap = (c.in_ok-object.ensures c.requires.found.0 c.requires.found.1).heap }

pub add_members-requires-clause-heap : goal.add_members-requires-clause-heap
add_members-requires-clause-heap c =
    let first = c.in_ok-object.ensures c.requires.found.0 c.requires.found.1 in
    (c.in_ok-old_object.ensures (without (codes "object") c.requires.found.0) first.rest).heap

pub add_members-requires-clause-sound : goal.add_members-requires-clause-sound
add_members-requires-clause-sound c =
    let first = c.in_ok-object.ensures c.requires.found.0 c.requires.found.1 in
    let second = c.in_ok-old_object.ensures (without (codes "object") c.requires.found.0) first.rest in
    members_sound (heap_values c.take-2.new.heap) c.take-2.new.found.entries _ second.rest

pub returns-in_default : goal.returns-in_default
returns-in_default c = λ ms are.
    request_none c.args.heap.now ms c.requires.heap (subst (λ o. IsUidOf (heap_values c.args.heap.now) o ms) c.in_default.is (c.find_uid.ensures ms are))

pub returns : goal.returns
returns c = λ ms are.
    let first = c.in_ok-object.ensures ms are in
    let second = c.in_ok-old_object.ensures (without (codes "object") ms) first.rest in
    let uid = subst (λ o. IsUidOf (heap_values c.args.heap.now) o ms) c.in-Some.is (c.find_uid.ensures ms are) in
    request_made c.args.heap.now c.take.new.heap c.take-2.new.heap c.add_members.new.heap ms c.args.found.entries c.take.new.found.entries c.take-2.new.found.entries c.in-Some.uid c.in_ok-object.object c.in_ok-old_object.old_object c.in_ok-rest.rest first second c.in_ok-rest.ensures uid
