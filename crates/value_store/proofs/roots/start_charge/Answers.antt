-- Proof obligations of `start_charge` (src/roots.rt).
use Rattle.value_store.proofs.Prelude.{◌+◌, suc, drop, map, sym, subst, add-one, arith, AllByRecursion, drop_more, view, IsDocumentOrdered}
use Rattle.value_store.proofs.Starting.{Judging, judging_step}
use Rattle.value_store.proofs.roots.start_charge.Goals as goal

pub loop-root-preserved : goal.loop-root-preserved
loop-root-preserved c =
    let l = c.loop-root in
    let xs = c.args.roots.now in
    let here = drop_more xs l.root-index c.root-item.result (omega arith) in
    let go = subst (λ ys. Judging (map view xs) (map view ys) l.place l.charge) here l.invariant.go in
    let rest = map view (drop (l.root-index + 1) xs) in
    let step = judging_step _ _ _ _ _ _ go c.in_ok-size.ensures.size in
    let charged = subst (λ n. Judging (map view xs) rest (suc l.place) n) (sym c.saturating_add-charge.ensures) step in
    let ordered = subst (λ ys. AllByRecursion IsDocumentOrdered (map view ys) → AllByRecursion IsDocumentOrdered (map view xs)) here l.invariant.ordered in
    record {
      at = omega (arith, l.invariant.at);
      go = subst (λ p. Judging (map view xs) rest p c.saturating_add-charge.result) (sym (add-one l.place)) charged;
      ordered = λ more. ordered (c.in_ok-size.ensures.ordered, more);
    }
