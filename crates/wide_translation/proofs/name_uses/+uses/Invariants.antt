-- Loop invariants of the functions of the cycle `uses` (src/name_uses.rt).
use Rattle.std.proofs.Common.{◌≡◌, drop, map}
use Rattle.wide_reader.specs.Tree as wide
unfoldable use Rattle.wide_translation.specs.Uses.{any_uses, items_use, entries_use}
use Rattle.wide_translation.proofs.name_uses.+uses.Given as goal

-- what the expressions from here on are decides what all are
abbrev pub invariant-any_uses-loop-e : goal.invariant-any_uses-loop-e
invariant-any_uses-loop-e l = any_uses l.name (wide.wides (map wide.view l.given)) ≡ any_uses l.name (wide.wides (map wide.view (drop l.e-index l.given)))

abbrev pub invariant-items_use-loop-item : goal.invariant-items_use-loop-item
invariant-items_use-loop-item l = items_use l.name (wide.items (map wide.item_view l.given)) ≡ items_use l.name (wide.items (map wide.item_view (drop l.item-index l.given)))

abbrev pub invariant-entries_use-loop-key : goal.invariant-entries_use-loop-key
invariant-entries_use-loop-key l = entries_use l.name (wide.entries (map wide.entry_view l.given)) ≡ entries_use l.name (wide.entries (map wide.entry_view (drop l.key-index l.given)))
