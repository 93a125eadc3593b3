-- Loop invariants of `cluster::telling::policies_text`.
use Rattle.gatekeeper_runner.proofs.Prelude.{◌≡◌, map, take}
use Rattle.serde_json.specs.View.{view}
use Rattle.admission.specs.declared.language.Language.{Language}
use Rattle.cluster_state.specs.State.{ClusterState, state_view}
use Rattle.cluster_gate.specs.Gates.{AreGatesFor}
use Rattle.gatekeeper_runner.specs.Cluster.Telling.{TellsPolicies}
use Rattle.gatekeeper_runner.proofs.cluster.telling.policies_text.Given as goal

abbrev pub invariant-loop-gate : goal.invariant-loop-gate
invariant-loop-gate l = (language : Language) (s : ClusterState) → state_view l.state ≡ s → AreGatesFor language s s.policies l.gates
    → TellsPolicies language (map view l.lists) s (take l.gate-index s.policies) l.text.items
