-- Proofs of `requests::find_uid`: the result meets the contract; its calls meet their requirements.

use Rattle.value_table.proofs.Prelude.{Some, sym, ap, ◌∙◌, heap_values}
use Rattle.std.specs.Prelude.{codes}
use Rattle.serde_json.specs.Find.{get_member}
use Rattle.review_tables.proofs.RequestReading.{copied_some, copied_none, found_as, is_inside, has_text, has_none, has_other, uid_there}
use Rattle.review_tables.proofs.requests.find_uid.Goals as goal

pub is_text_at-requires-clause-inside : goal.is_text_at-requires-clause-inside
is_text_at-requires-clause-inside c =
    let there = ap (λ m. Some m) (sym c.in-Some-member.is) ∙ copied_some c.get.result c.in-Some.member _ c.in-Some.is c.get.ensures in
    is_inside (codes "uid") (heap_values c.args.heap.now) c.args.found.now.entries c.in-Some-member.uid there c.requires.found

pub returns-then-is_text_at : goal.returns-then-is_text_at
returns-then-is_text_at c = λ ms are.
    let there = ap (λ m. Some m) (sym c.in-Some-member.is) ∙ copied_some c.get.result c.in-Some.member _ c.in-Some.is c.get.ensures in
    let vs = heap_values c.args.heap.now in
    uid_there vs c.in-Some-member.uid ms (found_as (codes "uid") vs c.args.found.now.entries ms _ there are) (sym c.if-is_text_at.ensures)

pub returns-else-is_text_at : goal.returns-else-is_text_at
returns-else-is_text_at c = λ ms are.
    let there = ap (λ m. Some m) (sym c.in-Some-member.is) ∙ copied_some c.get.result c.in-Some.member _ c.in-Some.is c.get.ensures in
    let vs = heap_values c.args.heap.now in
    sym (has_text vs c.in-Some-member.uid (get_member (codes "uid") ms) (found_as (codes "uid") vs c.args.found.now.entries ms _ there are)) ∙ sym c.if-is_text_at.ensures

pub returns-in-None-member : goal.returns-in-None-member
returns-in-None-member c = λ ms are.
    let there = ap (λ m. Some m) (sym c.in-None-member.is) ∙ copied_some c.get.result c.in-Some.member _ c.in-Some.is c.get.ensures in
    let vs = heap_values c.args.heap.now in
    sym (has_other vs (get_member (codes "uid") ms) (found_as (codes "uid") vs c.args.found.now.entries ms _ there are))

pub returns-in-None : goal.returns-in-None
returns-in-None c = λ ms are.
    let there = copied_none c.get.result _ c.in-None.is c.get.ensures in
    let vs = heap_values c.args.heap.now in
    sym (has_none vs (get_member (codes "uid") ms) (found_as (codes "uid") vs c.args.found.now.entries ms _ there are))
