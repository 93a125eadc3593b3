-- Proof obligations of `cluster::opening::open_cluster`.
use Rattle.gatekeeper_runner.proofs.Prelude.{refl}
use Rattle.gatekeeper_runner.proofs.cluster.opening.open_cluster.Goals as goal

pub returns : goal.returns
returns c = (
  record {
    of_state = c.in_ok-cluster.ensures.0;
    limits = refl;
    told = rw c.deref.ensures.value at (c.in_ok-told.ensures _ _ refl (c.policies.ensures _ _ c.in_ok-cluster.ensures.0));
  },
  c.in_ok-cluster.ensures.1,
)
