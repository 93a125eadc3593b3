-- Proof obligations of the functions of the cycle `measure_document` (src/measure.rt).
use Rattle.value_store.proofs.Prelude.{◌≡◌, ◌+◌, ◌∷◌, drop, length, max, string_bytes, sym, ap, ◌∙◌, subst, arith, rules, drop_more, items_view, members_view, saturated, AreElementsOrdered, AreMembersOrdered}
use Rattle.value_store.proofs.Measures.{ItemsMeasured, MembersMeasured, items_step, members_step}
use Rattle.value_store.proofs.measure.+measure_document.Goals as goal

pub measure_items-loop-item-preserved : goal.measure_items-loop-item-preserved
measure_items-loop-item-preserved t c =
    let l = c.loop-item in
    let xs = c.deref-item-items.result.now in
    let x = c.item-item.result in
    let here : drop l.item-index xs ≡ x ∷ drop (l.item-index + 1) xs = drop_more xs l.item-index x (omega arith) ∙ ap (λ y. y ∷ drop (l.item-index + 1) xs) (sym c.item-item.is) in
    let go = subst (λ ys. ItemsMeasured (items_view xs) (items_view ys) l.all) here l.invariant.measured in
    record {
      measured = subst (λ m. ItemsMeasured (items_view xs) (items_view (drop (l.item-index + 1) xs)) m) (sym c.with_part-all.ensures) (items_step _ _ _ _ _ go c.in_ok-part.ensures.measure);
      ordered = λ rest. subst (λ ys. AreElementsOrdered (items_view ys) → AreElementsOrdered (items_view xs)) here l.invariant.ordered (c.in_ok-part.ensures.ordered, rest);
    }

pub measure_members-loop-key-preserved : goal.measure_members-loop-key-preserved
measure_members-loop-key-preserved t c =
    let l = c.loop-key in
    let all = members_view c.into_iter-key-iterator.result in
    let rest = members_view c.next.new.self in
    let go = subst (λ ys. MembersMeasured all (members_view ys) l.all) c.in-Some.ensures.steps l.invariant.measured in
    let stepped = members_step _ _ _ _ _ _ go c.in_ok-part.ensures.measure in
    let counted : c.with_key-all.result ≡ record { size = saturated (saturated (l.all.size + c.in_ok-part.part.size) + (1 + length (string_bytes c.in-Some.key.now))); depth = max l.all.depth (saturated (c.in_ok-part.part.depth + 1)) } = search rules in
    let ordered = subst (λ ys. AreMembersOrdered (members_view ys) → AreMembersOrdered all) c.in-Some.ensures.steps l.invariant.ordered in
    record { measured = subst (λ m. MembersMeasured all rest m) (sym counted) stepped; ordered = λ more. ordered (c.in_ok-part.ensures.ordered, more) }
