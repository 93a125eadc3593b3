-- Proof obligations of `bindings::bindings_at`.
use Rattle.cluster_state.proofs.Prelude.{◌∙◌, ◌+◌, ◌++◌, ap, drop, refl}
use Rattle.cluster_state.proofs.Indexed.{next_place}
use Rattle.cluster_state.specs.Indexes.{bindings_at}
use Rattle.cluster_state.proofs.bindings.bindings_at.Goals as goal

pub loop-place-preserved : goal.loop-place-preserved
loop-place-preserved c =
    ap (λ l. l ++ bindings_at c.args.all.now (drop (c.loop-place.place-index + 1) c.args.places.now)) c.in_ok-push_at.ensures
    ∙ next_place c.args.all.now c.args.places.now c.loop-place.place-index _ _ _ _ c.loop-place-test.true c.loop-place.invariant refl
