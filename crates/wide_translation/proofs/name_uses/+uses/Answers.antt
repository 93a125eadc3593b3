-- Proof obligations of the functions of the cycle `uses` (src/name_uses.rt).
use Rattle.std.proofs.Common.{◌∙◌, sym}
use Rattle.wide_translation.proofs.UseSteps.{item_unused, entry_unused}
use Rattle.wide_translation.proofs.name_uses.+uses.Goals as goal

pub items_use-loop-item-preserved : goal.items_use-loop-item-preserved
items_use-loop-item-preserved t c =
    c.loop-item.invariant
    ∙ item_unused c.args.name.now c.args.given.now c.loop-item.item-index c.loop-item-item.result c.loop-item-test.true c.loop-item-item.is
    (sym c.uses.ensures ∙ c.if-uses.false)

pub entries_use-loop-key-preserved : goal.entries_use-loop-key-preserved
entries_use-loop-key-preserved t c =
    c.loop-key.invariant
    ∙ entry_unused c.args.name.now c.args.given.now c.loop-key.key-index c.loop-key-item.result c.loop-key-test.true c.loop-key-item.is
    (sym c.uses.ensures ∙ c.if-uses.false) (sym c.uses-else-uses.ensures ∙ c.if-uses-2.false)
