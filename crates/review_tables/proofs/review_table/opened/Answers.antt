-- Proofs of `review_table::opened`: the result meets the contract; its calls meet their requirements.

use Rattle.value_table.proofs.Prelude.{◌∙◌, arith, heap_values}
use Rattle.value_store.specs.Documents.{document_of}
use Rattle.value_table.specs.declared.table.Table.{Table}
use Rattle.review_tables.proofs.ReviewTables.{none_given, other_refused, placed_refused, review_refused, roots_are_placed, roots_are_sound, some_given, some_sound, uid_is}
use Rattle.review_tables.proofs.review_table.opened.Goals as goal

pub returns-in_err-request-clause-table : goal.returns-in_err-request-clause-table
returns-in_err-request-clause-table c = λ namespace params placed.
    review_refused _ c.from_residual.result c.in_err-request.field-0.0 c.args.others.heap c.review_values.new.heap (document_of c.args.review.now) namespace params (grind arith) c.in_err-request.ensures

pub returns-in_default-clause-table : goal.returns-in_default-clause-table
returns-in_default-clause-table c = λ namespace params placed.
    other_refused c.args.others.heap c.review_values.new.heap c.in_ok-request.request (document_of c.args.review.now) namespace params c.in_ok-request.ensures
    (none_given (heap_values c.args.others.heap) c.args.others.places namespace params c.in_default.is placed.values)

pub placed-requires-clause-sound : goal.placed-requires-clause-sound
placed-requires-clause-sound c =
    let sound = some_sound (heap_values c.args.others.heap) c.args.others.places c.in-Some.places c.in-Some.is c.requires.sound in
    roots_are_sound c.args.others.heap c.review_values.new.heap c.in_ok-request.request c.in-Some.places (document_of c.args.review.now) c.in_ok-request.ensures sound

pub returns-in_err-table-clause-table : goal.returns-in_err-table-clause-table
returns-in_err-table-clause-table c = λ namespace params placed.
    let sound = some_sound (heap_values c.args.others.heap) c.args.others.places c.in-Some.places c.in-Some.is c.requires.sound in
    let values = some_given (heap_values c.args.others.heap) c.args.others.places c.in-Some.places namespace params c.in-Some.is placed.values in
    let at = roots_are_placed c.args.others.heap c.review_values.new.heap c.in_ok-request.request c.in-Some.places (document_of c.args.review.now) namespace params c.in_ok-request.ensures sound values in
    placed_refused {S = Table} (λ t. record { values = t.values; charge = t.charge }) _ c.review_values.new.heap _ _ namespace params at c.from_residual-in_err-table.result c.in_err-table.field-0.0 (grind arith) c.in_err-table.ensures

pub returns-clause-table : goal.returns-clause-table
returns-clause-table c = λ namespace params placed.
    let sound = some_sound (heap_values c.args.others.heap) c.args.others.places c.in-Some.places c.in-Some.is c.requires.sound in
    let values = some_given (heap_values c.args.others.heap) c.args.others.places c.in-Some.places namespace params c.in-Some.is placed.values in
    let at = roots_are_placed c.args.others.heap c.review_values.new.heap c.in_ok-request.request c.in-Some.places (document_of c.args.review.now) namespace params c.in_ok-request.ensures sound values in
    (at.documents, at.is, c.in_ok-table.ensures at.documents at.answer)

pub returns-clause-uid : goal.returns-clause-uid
returns-clause-uid c =
    let read = c.in_ok-request.ensures in
    let uid = read.request.uid in
    c.in_ok-uid.ensures.ok ∙ c.text_at.ensures uid.text uid.value ∙ uid_is c.args.review.now uid.text read.members read.is uid.is
