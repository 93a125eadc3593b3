-- Loop invariants of `is_item` (src/membership.rt).
use Rattle.value_store.proofs.Prelude.{◌≡◌, drop, view, items_view, has_item, plain_value, plain_items}
use Rattle.value_store.proofs.membership.is_item.Given as goal

abbrev pub invariant-loop-item : goal.invariant-loop-item
invariant-loop-item l =
    has_item (plain_value (view l.value)) (plain_items (items_view l.items.items)) ≡ has_item (plain_value (view l.value)) (plain_items (items_view (drop l.item-index l.item-items)))
