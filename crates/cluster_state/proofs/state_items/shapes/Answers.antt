-- Proof obligations of `state_items::shapes`.
use Rattle.cluster_state.proofs.Shaped.{shows_more, shows_none}
use Rattle.cluster_state.proofs.state_items.shapes.Goals as goal

pub loop-item-init : goal.loop-item-init
loop-item-init c = shows_none c.new-shapes.result c.new-shapes.ensures.empty

pub loop-item-preserved : goal.loop-item-preserved
loop-item-preserved c =
    shows_more c.args.items.now c.loop-item.item-index c.item-item.result c.loop-item.shapes c.add_item.new.shapes c.loop-item-test.true c.item-item.is
    c.loop-item.invariant c.in_ok-add_item.ensures
