-- Proofs of `reviewing::review`: the result meets the contract.

use Rattle.admission.proofs.Prelude.{subst, exactly}
use Rattle.admission.specs.Deciding.{answer_view}
use Rattle.admission.specs.Lent.{documents_lent}
use Rattle.admission.specs.Standing.{RunAgrees, steps_alone}
use Rattle.admission.specs.declared.limits.Limits.{Limits}
use Rattle.admission.proofs.Standing.{not_read_out, of_one}
use Rattle.admission.proofs.reviewing.review.Goals as goal

pub returns-clause-reviews : goal.returns-clause-reviews
returns-clause-reviews c = rw (← c.of_steps.ensures) (c.decide.ensures.reviews _ _ c.in_ok-gate.ensures.compiles)

pub returns-clause-runs : goal.returns-clause-runs
returns-clause-runs c =
    let documents = documents_lent c.args.policy.now c.args.review.now c.args.namespace c.args.params in
    of_one documents (steps_alone c.args.n) _ _ _ _ (answer_view c.decide.result) c.in_ok-gate.ensures.compiles.0 c.in_ok-gate.ensures.one
    (subst (λ (l : Limits). RunAgrees (exactly c.in_ok-gate.gate.image) documents l (answer_view c.decide.result)) c.of_steps.ensures (c.decide.ensures.runs _ _ c.in_ok-gate.ensures.compiles))

pub returns-clause-unlimited : goal.returns-clause-unlimited
returns-clause-unlimited c =
    not_read_out (documents_lent c.args.policy.now c.args.review.now c.args.namespace c.args.params) c.args.n c.decide.result (returns-clause-reviews c)
