-- Proof obligations of `evaluating::evaluate_on`.
use Rattle.cluster_gate.proofs.Prelude.{IfOk-weaker}
use Rattle.cluster_gate.proofs.Evaluated.{evaluated_on, told}
use Rattle.cluster_gate.proofs.evaluating.evaluate_on.Goals as goal

pub returns : goal.returns
returns c =
    IfOk-weaker c.found.result _ _
    (λ r h language p params namespace asked gives.
    told language p c.args.gate.now c.args.case.now.review.now c.args.case.now.limits params namespace c.findings_on.result r
    (evaluated_on language p c.args.gate.now c.args.case.now.review.now c.args.case.now.limits params namespace c.args.table c.findings_on.result gives asked c.findings_on.ensures.finds c.findings_on.ensures.runs) h)
    c.found.ensures
