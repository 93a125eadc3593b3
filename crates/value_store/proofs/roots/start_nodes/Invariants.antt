-- Loop invariants of `start_nodes` (src/roots.rt).
use Rattle.value_store.proofs.Prelude.{◌≡◌, ◌++◌, drop, take, map, view, value, first_values, plain_value, stored_values}
use Rattle.value_store.proofs.Starting.{Welcome}
use Rattle.value_store.proofs.roots.start_nodes.Given as goal

abbrev pub invariant-loop-root : goal.invariant-loop-root
invariant-loop-root l = record {
  made : stored_values l.nodes.items ≡ first_values ++ map (λ root. value (plain_value (view root))) (take l.root-index l.roots);
  welcome : Welcome (map view (drop l.root-index l.roots));
}
