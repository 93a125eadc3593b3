-- Proof obligations of `opening::open_gates`.
use Rattle.cluster_gate.proofs.Prelude.{List, Err, state_view, subst, BoundPolicy}
use Rattle.cluster_gate.proofs.Opened.{opened_more, opened_until}
use Rattle.cluster_gate.specs.Gates.{GatesOpen}
use Rattle.cluster_gate.proofs.opening.open_gates.Goals as goal

pub returns-in-Err : goal.returns-in-Err
returns-in-Err c =
    subst (λ (ps : List BoundPolicy). GatesOpen c.args.language (state_view c.args.state.now) c.args.partial ps (Err c.in-Err.error)) c.policies-policies.ensures
    (opened_until c.args.language (state_view c.args.state.now) c.args.partial c.policies-policies.result.now c.loop-policy.policy-index c.loop-policy.gates.items c.loop-policy.invariant
    c.policy-item.result c.loop-policy-test.true c.policy-item.is c.in-Err.error c.in-Err.ensures)

pub loop-policy-preserved : goal.loop-policy-preserved
loop-policy-preserved c =
    rw c.in_ok-push-in-Ok.ensures.items
    (opened_more c.args.language (state_view c.args.state.now) c.args.partial c.policies-policies.result.now c.loop-policy.policy-index c.loop-policy.gates.items c.loop-policy.invariant
    c.policy-item.result c.loop-policy-test.true c.policy-item.is c.in-Ok.gate c.in-Ok.ensures)
