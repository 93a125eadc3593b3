-- Proofs of `selectors::requirements_in`: each turn of the loop keeps the invariant.

use Rattle.std.proofs.Common.{[], ◌+◌, ◌∷◌}
use Rattle.std.proofs.lemmas.List.{map-append}
use Rattle.serde_json.specs.View.{view}
use Rattle.admission_documents.proofs.Prelude.{◌∙◌, ap, drop, items_view, map, requirement_in, requirement_view}
use Rattle.json_fields.proofs.Items.{each_next, from_place}
use Rattle.admission_documents.proofs.selectors.requirements_in.Goals as goal

pub loop-item-preserved : goal.loop-item-preserved
loop-item-preserved c =
    each_next requirement_in _ _ (items_view (drop (c.loop-item.item-index + 1) c.deref-item-items.result.now)) (view c.item-item.result) _ _ _ c.loop-item.invariant
    (ap items_view (from_place c.deref-item-items.result.now c.loop-item.item-index c.item-item.result c.loop-item-test.true c.item-item.is))
    c.in_ok-requirement.ensures (ap (map requirement_view) c.in_ok-push.ensures.items ∙ map-append requirement_view c.loop-item.requirements.items (_ ∷ []))
