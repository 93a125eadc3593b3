-- Loop invariant of `rules::rules_in`.

use Rattle.admission_documents.proofs.Prelude.{drop, map, items_view, rule_view, rule_in}
use Rattle.json_fields.proofs.Items.{EachGo}
use Rattle.admission_documents.proofs.rules.rules_in.Given as goal

abbrev pub invariant-loop-item : goal.invariant-loop-item
invariant-loop-item l = EachGo rule_in (items_view l.item-items) (items_view (drop l.item-index l.item-items)) (map rule_view l.rules.items)
