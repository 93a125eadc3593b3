-- Loop invariants of `annotation::action_values`.
use Rattle.cluster_response.proofs.Prelude.{◌≡◌, ◌++◌, action_tree, drop, map, view}
use Rattle.cluster_response.proofs.annotation.action_values.Given as goal

abbrev pub invariant-loop-action : goal.invariant-loop-action
invariant-loop-action l = map view l.names.items ++ map action_tree (drop l.action-index l.actions) ≡ map action_tree l.actions
