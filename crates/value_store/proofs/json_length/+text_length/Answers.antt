-- Proof obligations of the functions of the cycle `text_length` (src/json_length.rt).
use Rattle.value_store.proofs.Prelude.{◌≡◌, ◌+◌, ◌∷◌, drop, sym, ap, ◌∙◌, subst, arith, rules, drop_more, items_view, members_view, string_bytes, view}
use Rattle.value_store.proofs.Lengths.{Counts, items_long, members_long, one_item, one_member}
use Rattle.value_store.proofs.json_length.+text_length.Goals as goal

pub items_length-loop-item-preserved : goal.items_length-loop-item-preserved
items_length-loop-item-preserved t c =
    let l = c.loop-item in
    let xs = c.deref-item-items.result.now in
    let x = c.item-item.result in
    let here : drop l.item-index xs ≡ x ∷ drop (l.item-index + 1) xs = drop_more xs l.item-index x (omega arith) ∙ ap (λ y. y ∷ drop (l.item-index + 1) xs) (sym c.item-item.is) in
    let go = subst (λ ys. Counts (items_long (items_view xs)) (items_long (items_view ys)) l.length) here l.invariant in
    one_item _ _ _ _ (view x) _ go c.text_length.ensures (search rules)

pub members_length-loop-key-preserved : goal.members_length-loop-key-preserved
members_length-loop-key-preserved t c =
    let l = c.loop-key in
    let all = members_long (members_view c.into_iter-key-iterator.result) in
    let go = subst (λ ys. Counts all (members_long (members_view ys)) l.length) c.in-Some.ensures.steps l.invariant in
    one_member _ _ c.quoted_length.result _ _ (string_bytes c.in-Some.key.now) (view c.in-Some.member.now) _ go (search rules) c.text_length.ensures (search rules)
