-- Proof obligations of `cluster::answer_as_cluster`.
use Rattle.gatekeeper_runner.proofs.Prelude.{refl}
use Rattle.gatekeeper_runner.specs.Endings.{not_started}
use Rattle.gatekeeper_runner.specs.Cluster.Starting.{no_list}
use Rattle.gatekeeper_runner.proofs.cluster.answer_as_cluster.Goals as goal

pub returns-in-Ok-clause-ends : goal.returns-in-Ok-clause-ends
returns-in-Ok-clause-ends g c = c.answer_by_lists.ensures _ (rw c.as_slice.ensures.value at c.in-Ok.ensures.lists)

pub returns-in-Err-clause-ends : goal.returns-in-Err-clause-ends
returns-in-Err-clause-ends g c = not_started (no_list (rw c.as_slice.ensures.value at c.in-Err.ensures.lists)) refl refl c.end_start.ensures
