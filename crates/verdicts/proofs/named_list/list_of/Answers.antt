-- Proofs of `named_list::list_of`: each turn of the loop keeps the invariant.

use Rattle.std.proofs.Common.{[], ◌+◌, ◌∷◌}
use Rattle.std.proofs.lemmas.List.{map-append}
use Rattle.serde_json.specs.View.{view}
use Rattle.json_fields.proofs.Items.{each_next, from_place}
use Rattle.verdicts.proofs.Prelude.{◌∙◌, ap, drop, items_view, map, named_in, named_view}
use Rattle.verdicts.proofs.named_list.list_of.Goals as goal

pub loop-item-preserved : goal.loop-item-preserved
loop-item-preserved c =
    each_next (named_in c.args.rule) _ _ (items_view (drop (c.loop-item.item-index + 1) c.deref-item-items.result.now)) (view c.item-item.result) _ _ _ c.loop-item.invariant
    (ap items_view (from_place c.deref-item-items.result.now c.loop-item.item-index c.item-item.result c.loop-item-test.true c.item-item.is))
    c.in_ok-named.ensures (ap (map named_view) c.in_ok-push.ensures.items ∙ map-append named_view c.loop-item.list.items (_ ∷ []))
