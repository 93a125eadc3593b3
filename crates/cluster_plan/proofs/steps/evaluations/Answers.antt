-- Proof obligations of `steps::evaluations`.
use Rattle.cluster_plan.proofs.Prelude.{None, Some}
use Rattle.cluster_plan.proofs.Bound.{steps_numbered}
use Rattle.cluster_plan.proofs.steps.evaluations.Goals as goal

pub returns-in-Null-clause-numbered : goal.returns-in-Null-clause-numbered
returns-in-Null-clause-numbered c = λ is found are. steps_numbered is None c.args.params.now c.evaluations_in.result c.evaluations_in.ensures.documents tt are

pub returns-in-Object-clause-numbered : goal.returns-in-Object-clause-numbered
returns-in-Object-clause-numbered c =
    rw c.in-Object.is
    (λ is found are. steps_numbered is (Some c.in-Object.object) c.args.params.now c.evaluations_in-in-Object.result c.evaluations_in-in-Object.ensures.documents found are)
