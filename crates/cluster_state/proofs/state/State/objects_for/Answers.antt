-- Proof obligations of `state::State::objects_for`.
use Rattle.cluster_state.proofs.Prelude.{◌∙◌, sym}
use Rattle.cluster_state.proofs.state.State.objects_for.Goals as goal

pub returns-then-is_empty : goal.returns-then-is_empty
returns-then-is_empty c = rw (c.in-Namespaced.is, sym c.is_empty.ensures ∙ c.if-is_empty.true) c.at.ensures

pub returns-else-is_empty : goal.returns-else-is_empty
returns-else-is_empty c = rw (c.in-Namespaced.is, sym c.is_empty.ensures ∙ c.if-is_empty.false) c.named.ensures

pub returns-in-Cluster : goal.returns-in-Cluster
returns-in-Cluster c = rw c.in-Cluster.is c.named-in-Cluster.ensures
