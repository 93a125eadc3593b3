-- Proof obligations of `evaluating::evaluate_alone`.
use Rattle.cluster_gate.proofs.Prelude.{IfOk-weaker, option_map, view}
use Rattle.cluster_gate.proofs.Evaluated.{evaluated, told}
use Rattle.cluster_gate.proofs.evaluating.evaluate_alone.Goals as goal

pub returns : goal.returns
returns c =
    IfOk-weaker c.found.result _ _
    (λ r h language p asked.
    told language p c.args.gate.now c.args.case.now.review.now c.args.case.now.limits (option_map (λ v. view v.now) c.args.params) (option_map (λ v. view v.now) c.args.namespace) c.findings_with.result r
    (evaluated language p c.args.gate.now c.args.case.now.review.now c.args.case.now.limits (option_map (λ v. view v.now) c.args.params) (option_map (λ v. view v.now) c.args.namespace)
    c.as_deref.result c.as_deref-2.result _ _ _ c.as_deref.ensures.value c.as_deref-2.ensures.value c.in_ok-params.ensures c.in_ok-namespace.ensures asked c.findings_with.ensures.finds c.findings_with.ensures.runs) h)
    c.found.ensures
