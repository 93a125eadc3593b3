-- Loop invariant of `selectors::requirements_in`.

use Rattle.admission_documents.proofs.Prelude.{drop, map, items_view, requirement_view, requirement_in}
use Rattle.json_fields.proofs.Items.{EachGo}
use Rattle.admission_documents.proofs.selectors.requirements_in.Given as goal

abbrev pub invariant-loop-item : goal.invariant-loop-item
invariant-loop-item l = EachGo requirement_in (items_view l.item-items) (items_view (drop l.item-index l.item-items)) (map requirement_view l.requirements.items)
