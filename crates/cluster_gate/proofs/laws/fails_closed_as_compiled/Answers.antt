-- Proof obligations of `laws::fails_closed_as_compiled`.
use Rattle.cluster_gate.proofs.FailurePolicies.{fails_closed_as_compiled}
use Rattle.cluster_gate.proofs.laws.fails_closed_as_compiled.Goals as goal

pub returns : goal.returns
returns c = fails_closed_as_compiled
