-- Proof obligations of `Tree::join` (src/tree.rt).
use Rattle.value_store.proofs.Prelude.{sym, ap, ◌∙◌, view}
use Rattle.value_store.proofs.Keys.{join_ordered, made_ordered}
use Rattle.value_store.proofs.Trees.{join_lists}
use Rattle.value_store.proofs.tree.Tree.join.Goals as goal

pub invariant_of-result-in-Array-2 : goal.invariant_of-result-in-Array-2
invariant_of-result-in-Array-2 c =
    let first = ap view (sym c.in-Array.is) ∙ c.in_ok-text.ensures.cases in
    let second = ap view (sym c.in-Array-2.is) ∙ c.in_ok-more-in-Array.ensures.cases in
    let gives = join_lists _ _ _ c.args.self.now c.args.other.now first second c.in_ok-append-in-Array-2.ensures.items in
    record { whole = gives.whole; deep = c.max-depth.ensures ∙ gives.deep; ordered = made_ordered gives.value (join_ordered _ _ c.args.self.now.ordered c.args.other.now.ordered) }
