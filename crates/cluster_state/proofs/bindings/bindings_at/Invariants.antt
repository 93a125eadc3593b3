-- Loop invariants of `bindings::bindings_at`.
use Rattle.cluster_state.proofs.Prelude.{◌≡◌, ◌++◌, drop, map}
use Rattle.cluster_state.specs.Indexes.{bindings_at}
use Rattle.cluster_state.proofs.bindings.bindings_at.Given as goal

abbrev pub invariant-loop-place : goal.invariant-loop-place
invariant-loop-place l =
    map (λ b. b.now) l.found.items ++ bindings_at l.all (drop l.place-index l.places) ≡ bindings_at l.all l.places
