-- Proof obligations of `Tree::new_map` (src/tree.rt).
use Rattle.value_store.proofs.Ordered.{empty_fresh}
use Rattle.value_store.proofs.tree.Tree.new_map.Goals as goal

pub invariant_of-result : goal.invariant_of-result
invariant_of-result c = let fresh = empty_fresh c.new.result c.new.ensures.empty in record { whole = fresh.whole; deep = fresh.deep; ordered = fresh.ordered }
