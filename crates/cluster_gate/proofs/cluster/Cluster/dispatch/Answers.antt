-- Proof obligations of `cluster::Cluster::dispatch`.
use Rattle.cluster_gate.proofs.Prelude.{◌+◌, List, drop, request_view, subst, sym, AreGatesFor, PolicyGate}
use Rattle.cluster_gate.proofs.Dispatched.{gives_all, gives_last, gives_more, left_policy, none_left}
use Rattle.cluster_gate.proofs.cluster.Cluster.dispatch.Goals as goal

pub returns-then-branch : goal.returns-then-branch
returns-then-branch c language s is =
    let are = subst (λ (gs : List PolicyGate). AreGatesFor language s s.policies gs) (sym c.as_slice-gates.ensures.value) is.gates in
    let left = left_policy language s s.policies c.as_slice-gates.result.now c.loop-gate.gate-index c.gate-item.result are c.loop-gate-test.true c.gate-item.is in
    gives_last language s c.args.case.now.review.now c.args.case.now.limits (request_view c.args.case.now.request.now) s.policies left.policy
    (drop (c.loop-gate.gate-index + 1) s.policies) (drop c.loop-gate.gate-index s.policies) c.loop-gate.events c.ask.new.events left.left (c.loop-gate.invariant language s is)
    (rw c.if-branch.true at (c.in_ok-ask.ensures language s left.policy is.state left.gate))

pub loop-gate-preserved : goal.loop-gate-preserved
loop-gate-preserved c language s is =
    let are = subst (λ (gs : List PolicyGate). AreGatesFor language s s.policies gs) (sym c.as_slice-gates.ensures.value) is.gates in
    let left = left_policy language s s.policies c.as_slice-gates.result.now c.loop-gate.gate-index c.gate-item.result are c.loop-gate-test.true c.gate-item.is in
    gives_more language s c.args.case.now.review.now c.args.case.now.limits (request_view c.args.case.now.request.now) s.policies left.policy
    (drop (c.loop-gate.gate-index + 1) s.policies) (drop c.loop-gate.gate-index s.policies) c.loop-gate.events c.ask.new.events left.left (c.loop-gate.invariant language s is)
    (rw c.if-branch.false at (c.in_ok-ask.ensures language s left.policy is.state left.gate))

pub returns : goal.returns
returns c language s is =
    let are = subst (λ (gs : List PolicyGate). AreGatesFor language s s.policies gs) (sym c.as_slice-gates.ensures.value) is.gates in
    gives_all language s c.args.case.now.review.now c.args.case.now.limits (request_view c.args.case.now.request.now) s.policies c.loop-gate.events
    (drop c.loop-gate.gate-index s.policies) (none_left language s s.policies c.as_slice-gates.result.now c.loop-gate.gate-index are c.loop-gate-test.false) (c.loop-gate.invariant language s is)
