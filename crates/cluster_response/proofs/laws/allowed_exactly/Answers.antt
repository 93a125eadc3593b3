-- Proof obligations of `laws::allowed_exactly`.
use Rattle.cluster_response.proofs.Allowed.{allows_by_events}
use Rattle.cluster_response.proofs.laws.allowed_exactly.Goals as goal

pub returns : goal.returns
returns c = allows_by_events
