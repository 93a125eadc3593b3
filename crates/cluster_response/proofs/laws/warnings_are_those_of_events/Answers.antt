-- Proof obligations of `laws::warnings_are_those_of_events`.
use Rattle.cluster_response.proofs.Allowed.{warnings_are_of_events}
use Rattle.cluster_response.proofs.laws.warnings_are_those_of_events.Goals as goal

pub returns : goal.returns
returns c = warnings_are_of_events
