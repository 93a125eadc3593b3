-- Proof obligations of `base::Base::open`.
use Rattle.cluster_gate.proofs.Places.{all_here}
use Rattle.cluster_gate.proofs.base.Base.open.Goals as goal

pub invariant_of-result : goal.invariant_of-result
invariant_of-result c = all_here c.self.inside.pool c.in-Ok.review.values c.self.inside.documents.items c.in-Ok.ensures.1 c.self.invariant
