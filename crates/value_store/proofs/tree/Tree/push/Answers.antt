-- Proof obligations of `Tree::push` (src/tree.rt).
use Rattle.value_store.proofs.Prelude.{sym, ap, ◌∙◌, view}
use Rattle.value_store.proofs.Keys.{push_ordered, made_ordered}
use Rattle.value_store.proofs.Trees.{push_list}
use Rattle.value_store.proofs.tree.Tree.push.Goals as goal

pub invariant_of-result : goal.invariant_of-result
invariant_of-result c =
    let list = ap view (sym c.in-Array.is) ∙ c.in_ok-items.ensures.cases in
    let gives = push_list _ _ _ c.args.self.now c.args.item.now list c.in_ok-more.ensures.cases c.in_ok-push-in-Array.ensures.items in
    record { whole = gives.whole; deep = c.max-depth.ensures ∙ gives.deep; ordered = made_ordered gives.value (push_ordered _ _ c.args.self.now.ordered c.args.item.now.ordered) }
