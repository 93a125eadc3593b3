-- Proof obligations of `laws::cluster_answers_once`.
use Rattle.gatekeeper_runner.proofs.OfClusters.LineOnce.{cluster_lines_once}
use Rattle.gatekeeper_runner.proofs.laws.cluster_answers_once.Goals as goal

pub returns : goal.returns
returns c = cluster_lines_once c.one_answer.ensures c.states_are_shallow.ensures
