-- Proof obligations of `cluster::answer_by_lists`.
use Rattle.gatekeeper_runner.proofs.Prelude.{refl}
use Rattle.cluster_gate.proofs.States.{same_state}
use Rattle.gatekeeper_runner.specs.Endings.{not_started}
use Rattle.gatekeeper_runner.proofs.cluster.answer_by_lists.Goals as goal

pub returns-in-Ok : goal.returns-in-Ok
returns-in-Ok g c known hold =
    let read = rw c.as_slice.ensures.value at c.in-Ok.ensures in
    c.answer_by_state.ensures known read.0 hold read.1 (same_state read.0 _ read.2)

pub returns-in-Err : goal.returns-in-Err
returns-in-Err g c known hold =
    not_started (c.state_refusal.ensures known hold (rw c.as_slice.ensures.value at c.in-Err.ensures)) refl refl c.end_start.ensures
