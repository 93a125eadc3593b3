-- Proof obligations of `opening::open_gate`.
use Rattle.cluster_gate.proofs.Prelude.{policy_view}
use Rattle.cluster_gate.proofs.Asked.{compiled_of}
use Rattle.cluster_gate.proofs.opening.open_gate.Goals as goal

pub returns-in-Asked : goal.returns-in-Asked
returns-in-Asked c =
    let stands = rw c.in-Asked.is at c.in_ok-gate.ensures.stands in
    (record { asked = c.in_ok-gate.ensures.asked; stands = stands; leaves = c.in_ok-gate.ensures.leaves }, λ e. (compiled_of c.args.language (policy_view c.args.policy.now) c.in-Asked.gate stands.0, stands.1))
