-- Proofs of `table::rooted::chosen_places`: the result meets the contract; the loop keeps its invariant.
use Rattle.std.proofs.Common.{arith}
use Rattle.value_table.specs.References.{reference_values}
use Rattle.value_table.proofs.Rooted.{still, value_still, root_chosen, all_chosen}
use Rattle.value_table.proofs.table.rooted.chosen_places.Goals as goal

pub place-requires-clause-sound : goal.place-requires-clause-sound
place-requires-clause-sound c =
    (still c.args.heap.now c.first_places.new.heap c.args.places.now c.requires.sound c.loop-reference.invariant.sound.heap c.in_ok-chosen.ensures.grown).sound

pub place-requires-clause-value : goal.place-requires-clause-value
place-requires-clause-value c =
    value_still c.args.heap.now c.first_places.new.heap c.args.places.now c.args.references.now c.loop-reference.reference-index 0
    (still c.args.heap.now c.first_places.new.heap c.args.places.now c.requires.sound c.loop-reference.invariant.sound.heap c.in_ok-chosen.ensures.grown)
    c.requires.values (omega arith)

pub loop-reference-preserved : goal.loop-reference-preserved
loop-reference-preserved c =
    root_chosen c.args.heap.now c.first_places.new.heap c.args.places.now c.args.references.now c.loop-reference.chosen c.push.new.self
    c.loop-reference.reference-index 0 c.place.result
    (still c.args.heap.now c.first_places.new.heap c.args.places.now c.requires.sound c.loop-reference.invariant.sound.heap c.in_ok-chosen.ensures.grown)
    (omega arith) c.place.ensures c.in_ok-push.ensures.ok c.loop-reference.invariant

pub returns : goal.returns
returns c = all_chosen c.first_places.new.heap (reference_values c.args.heap.now c.args.places.now) c.args.references.now c.loop-reference.chosen c.loop-reference.reference-index (omega arith) c.loop-reference.invariant
