-- Proofs of `table::Table::without_review`: the result meets the contract; its calls meet their requirements.

use Rattle.value_table.proofs.Prelude.{Some, refl, heap_values}
use Rattle.value_store.specs.Reviews.{null_parts}
use Rattle.review_tables.proofs.ReviewTables.{no_others, none_given, others_are_placed, others_are_sound, placed_returns, some_given, some_sound}
use Rattle.review_tables.proofs.review_table.table_without_review.Goals as goal

pub returns-in_default : goal.returns-in_default
returns-in_default c =
    let others = c.in_ok-others.others in
    no_others (Some null_parts) _ _ refl (none_given (heap_values others.heap) others.places _ _ c.in_default.is c.in_ok-others.ensures.values)

pub placed-requires-clause-sound : goal.placed-requires-clause-sound
placed-requires-clause-sound c =
    let others = c.in_ok-others.others in
    let sound = some_sound (heap_values others.heap) others.places c.in-Some.places c.in-Some.is c.in_ok-others.ensures.placed.sound in
    others_are_sound others.heap c.add_null.new.heap (Some c.in_ok-add_null.field-0) c.in-Some.places c.in_ok-add_null.ensures sound

pub returns : goal.returns
returns c =
    let others = c.in_ok-others.others in
    let sound = some_sound (heap_values others.heap) others.places c.in-Some.places c.in-Some.is c.in_ok-others.ensures.placed.sound in
    let values = some_given (heap_values others.heap) others.places c.in-Some.places _ _ c.in-Some.is c.in_ok-others.ensures.values in
    let at = others_are_placed others.heap c.add_null.new.heap (Some c.in_ok-add_null.field-0) c.in-Some.places _ _ c.in_ok-add_null.ensures sound values in
    placed_returns _ c.add_null.new.heap _ _ _ _ c.placed.result at c.placed.ensures
