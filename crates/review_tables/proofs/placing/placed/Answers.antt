-- Proofs of `placing::placed`: the result meets the contract; its calls meet their requirements.

use Rattle.value_table.proofs.Prelude.{Ok, ap, sym, ◌∙◌, arith, heap_values}
use Rattle.value_table.specs.Held.{held_contents}
use Rattle.review_tables.proofs.ReviewTables.{all_sound_stay, all_stay, charge_refused}
use Rattle.review_tables.proofs.placing.placed.Goals as goal

pub place_roots-requires-clause-sound : goal.place_roots-requires-clause-sound
place_roots-requires-clause-sound c = all_sound_stay (heap_values c.args.heap) (heap_values c.first_places.new.heap) c.args.roots.now c.in_ok-places.ensures.grown c.requires.sound

pub returns-in_err-charge : goal.returns-in_err-charge
returns-in_err-charge c = λ ds placed.
    charge_refused _ c.from_residual-in_err-charge.result c.in_err-charge.field-0.0 c.first_places.new.heap c.place_roots.new.places _ (grind arith)
    (c.in_err-charge.ensures.due ds (all_stay (heap_values c.args.heap) (heap_values c.first_places.new.heap) c.args.roots.now ds c.in_ok-places.ensures.grown placed))

pub of_parts-requires-clause-references : goal.of_parts-requires-clause-references
of_parts-requires-clause-references c = c.in_ok-charge.ensures.charged.references

pub of_parts-requires-clause-limit : goal.of_parts-requires-clause-limit
of_parts-requires-clause-limit c = c.in_ok-charge.ensures.charged.limit

pub returns : goal.returns
returns c = λ ds placed.
    c.in_ok-charge.ensures.due ds (all_stay (heap_values c.args.heap) (heap_values c.first_places.new.heap) c.args.roots.now ds c.in_ok-places.ensures.grown placed)
    ∙ ap (λ t. Ok (held_contents t)) (sym c.of_parts.ensures)
