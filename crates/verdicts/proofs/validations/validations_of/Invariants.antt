-- Loop invariant of `validations::validations_of`.

use Rattle.verdicts.proofs.Prelude.{drop, map, items_view, validation_view, validation_in}
use Rattle.json_fields.proofs.Items.{EachGo}
use Rattle.verdicts.proofs.validations.validations_of.Given as goal

abbrev pub invariant-loop-item : goal.invariant-loop-item
invariant-loop-item l = EachGo validation_in (items_view l.item-items) (items_view (drop l.item-index l.item-items)) (map validation_view l.list.items)
