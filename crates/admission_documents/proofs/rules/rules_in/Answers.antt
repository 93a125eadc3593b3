-- Proofs of `rules::rules_in`: each turn of the loop keeps the invariant.

use Rattle.std.proofs.Common.{[], ◌+◌, ◌∷◌}
use Rattle.std.proofs.lemmas.List.{map-append}
use Rattle.serde_json.specs.View.{view}
use Rattle.admission_documents.proofs.Prelude.{◌∙◌, ap, drop, items_view, map, rule_in, rule_view}
use Rattle.json_fields.proofs.Items.{each_next, from_place}
use Rattle.admission_documents.proofs.rules.rules_in.Goals as goal

pub loop-item-preserved : goal.loop-item-preserved
loop-item-preserved c =
    each_next rule_in _ _ (items_view (drop (c.loop-item.item-index + 1) c.deref-item-items.result.now)) (view c.item-item.result) _ _ _ c.loop-item.invariant
    (ap items_view (from_place c.deref-item-items.result.now c.loop-item.item-index c.item-item.result c.loop-item-test.true c.item-item.is))
    c.in_ok-rule.ensures (ap (map rule_view) c.in_ok-push.ensures.items ∙ map-append rule_view c.loop-item.rules.items (_ ∷ []))
