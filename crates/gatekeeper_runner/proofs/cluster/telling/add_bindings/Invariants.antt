-- Loop invariants of `cluster::telling::add_bindings`.
use Rattle.gatekeeper_runner.proofs.Prelude.{◌≡◌, ◌++◌, length, map}
use Rattle.std.specs.Vec.Iter.{into_iter_items, into_iter_len}
use Rattle.cluster_state.specs.Bindings.{Binding, binding_view}
use Rattle.gatekeeper_runner.specs.Cluster.Telling.{spaced}
use Rattle.gatekeeper_runner.proofs.cluster.telling.add_bindings.Given as goal

abbrev pub invariant-loop-binding : goal.invariant-loop-binding
invariant-loop-binding l = record {
  go : l.line.items ++ spaced (map (λ (b : Binding). b.name) (map (λ b. binding_view b.now) (into_iter_items l.binding-iterator)))
      ≡ l.initial.line.items ++ spaced (map (λ (b : Binding). b.name) (map (λ b. binding_view b.now) (into_iter_items l.initial.binding-iterator)));
  long : into_iter_len l.binding-iterator ≡ length (into_iter_items l.binding-iterator);
}
