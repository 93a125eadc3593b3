-- Proof obligations of `laws::exempt_is_allowed`.
use Rattle.cluster_gate.proofs.Allowed.{exempt_is_allowed}
use Rattle.cluster_gate.proofs.laws.exempt_is_allowed.Goals as goal

pub returns : goal.returns
returns c = exempt_is_allowed
