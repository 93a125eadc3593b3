-- Loop invariant of `reading::policies_in`.

use Rattle.cluster_state.proofs.Prelude.{map, binding_view, named_view, policy_view}
use Rattle.cluster_state.proofs.Held.{PoliciesGo}
use Rattle.cluster_state.proofs.reading.policies_in.Given as goal

abbrev pub invariant-loop-name : goal.invariant-loop-name
invariant-loop-name l = PoliciesGo (map binding_view l.bindings) (named_view l.initial.name-iterator) (named_view l.name-iterator) (map policy_view l.policies.items)
