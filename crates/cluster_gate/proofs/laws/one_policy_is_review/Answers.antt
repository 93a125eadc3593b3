-- Proof obligations of `laws::one_policy_is_review`.
use Rattle.cluster_gate.proofs.OnePolicy.{one_policy_is_review}
use Rattle.cluster_gate.proofs.laws.one_policy_is_review.Goals as goal

pub returns : goal.returns
returns c = one_policy_is_review c.compiles_once.ensures.answer c.reviews_once.ensures c.allowed_exactly.ensures
