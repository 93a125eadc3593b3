-- Proofs of `places::place`: the result meets the contract; its calls meet their requirements.

use Rattle.value_table.proofs.Prelude.{◌∙◌, sym, subst, Option, ℕ, IsSome}
use Rattle.value_table.proofs.Named.{at_place, value_has_place}
use Rattle.value_table.proofs.places.place.Goals as goal

pub unwrap-requires : goal.unwrap-requires
unwrap-requires c = subst (λ (o : Option ℕ). IsSome o) (sym c.place_of.ensures) (value_has_place c.args.heap.now c.args.places.now c.args.h c.requires.value)

pub returns : goal.returns
returns c = at_place c.args.heap.now c.args.places.now c.args.h c.unwrap.result c.requires.sound (sym c.place_of.ensures ∙ c.unwrap.ensures)
