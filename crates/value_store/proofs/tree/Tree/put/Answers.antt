-- Proof obligations of `Tree::put` (src/tree.rt).
use Rattle.value_store.proofs.Prelude.{sym, ap, ◌∙◌, view}
use Rattle.value_store.proofs.Keys.{put_at_ordered, made_ordered}
use Rattle.value_store.proofs.Trees.{put_map}
use Rattle.value_store.proofs.tree.Tree.put.Goals as goal

pub invariant_of-result : goal.invariant_of-result
invariant_of-result c =
    let map = ap view (sym c.in-Object.is) ∙ c.in_ok-members.ensures.cases in
    let gives = put_map _ _ _ _ c.args.self.now c.args.value.now map c.in_ok-member.ensures.cases c.in_ok-put-in-Object.ensures.ok c.requires.map in
    record { whole = gives.whole; deep = c.max-depth.ensures ∙ gives.deep; ordered = made_ordered gives.value (put_at_ordered _ _ _ c.args.self.now.ordered c.args.value.now.ordered) }

pub returns-clause-value : goal.returns-clause-value
returns-clause-value c =
    let map = ap view (sym c.in-Object.is) ∙ c.in_ok-members.ensures.cases in
    let gives = put_map _ _ _ _ c.args.self.now c.args.value.now map c.in_ok-member.ensures.cases c.in_ok-put-in-Object.ensures.ok c.requires.map in
    gives.value
