-- Proof obligations of `bindings::places`.
use Rattle.cluster_state.proofs.Prelude.{◌+◌, ap}
use Rattle.cluster_state.proofs.Indexed.{finds_more}
use Rattle.cluster_state.proofs.bindings.places.Goals as goal

pub loop-binding-preserved : goal.loop-binding-preserved
loop-binding-preserved c = record {
  place = ap (λ i. i + 1) c.loop-binding.invariant.place;
  finds =
      finds_more c.args.all.now c.loop-binding.binding-index c.binding-item.result c.loop-binding.places c.add_place.new.places c.loop-binding-test.true c.binding-item.is
      c.loop-binding.invariant.finds
      (rw c.loop-binding.invariant.place at c.in_ok-add_place.ensures);
}
