-- Proof obligations of `laws::unmatched_is_allowed`.
use Rattle.cluster_gate.proofs.Allowed.{unmatched_is_allowed}
use Rattle.cluster_gate.proofs.laws.unmatched_is_allowed.Goals as goal

pub returns : goal.returns
returns c = unmatched_is_allowed
