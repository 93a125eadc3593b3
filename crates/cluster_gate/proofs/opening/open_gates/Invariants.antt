-- Loop invariants of `opening::open_gates`.
use Rattle.cluster_gate.proofs.Prelude.{map, policy_view, state_view, take}
use Rattle.cluster_gate.proofs.Opened.{OpenedFirst}
use Rattle.cluster_gate.proofs.opening.open_gates.Given as goal

abbrev pub invariant-loop-policy : goal.invariant-loop-policy
invariant-loop-policy l = OpenedFirst l.language (state_view l.state) l.partial (map policy_view (take l.policy-index l.policies)) l.gates.items
