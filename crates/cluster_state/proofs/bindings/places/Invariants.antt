-- Loop invariants of `bindings::places`.
use Rattle.cluster_state.proofs.Prelude.{◌≡◌}
use Rattle.std.proofs.Common.{take}
use Rattle.cluster_state.specs.Indexes.{FindsBindings}
use Rattle.cluster_state.proofs.bindings.places.Given as goal

abbrev pub invariant-loop-binding : goal.invariant-loop-binding
invariant-loop-binding l = record {
  place : l.place ≡ l.binding-index;
  finds : FindsBindings l.places l.all (take l.binding-index l.all);
}
