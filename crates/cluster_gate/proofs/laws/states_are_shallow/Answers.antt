-- Proof obligations of `laws::states_are_shallow`.
use Rattle.cluster_gate.proofs.ShallowStates.{states_are_shallow}
use Rattle.cluster_gate.proofs.laws.states_are_shallow.Goals as goal

pub returns : goal.returns
returns c = states_are_shallow
