-- Proof obligations of `cluster::Cluster::answer`.
use Rattle.cluster_gate.proofs.cluster.Cluster.answer.Goals as goal

pub returns : goal.returns
returns c language s is = let given = c.in_ok-events.ensures language s is in (given.0, given.2, c.in_ok-text.ensures given.0 given.1)
