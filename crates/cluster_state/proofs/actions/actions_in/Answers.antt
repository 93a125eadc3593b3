-- Proofs of `actions::actions_in`: each turn of the loop keeps the invariant.

use Rattle.cluster_state.proofs.Prelude.{◌+◌, action_in, ap, drop, items_view, sym, view}
use Rattle.json_fields.proofs.Items.{each_next, from_place}
use Rattle.cluster_state.proofs.actions.actions_in.Goals as goal

pub loop-item-preserved : goal.loop-item-preserved
loop-item-preserved c =
    each_next action_in _ _ (items_view (drop (c.loop-item.item-index + 1) c.deref-item-items.result.now)) (view c.item-item.result) _ _ c.in-Some.action
    c.loop-item.invariant
    (ap items_view (from_place c.deref-item-items.result.now c.loop-item.item-index c.item-item.result c.loop-item-test.true c.item-item.is))
    (sym c.in-Some.ensures) c.in_ok-push-in-Some.ensures.items
