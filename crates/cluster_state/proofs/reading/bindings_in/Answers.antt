-- Proofs of `reading::bindings_in`: each turn of the loop keeps the invariant.

use Rattle.cluster_state.proofs.Prelude.{ap, binding_in, binding_view, bindings_in, map, named_view, view}
use Rattle.cluster_state.specs.Reading.{or_invalid_binding}
use Rattle.cluster_state.proofs.Appended.{bindings_next, viewed}
use Rattle.cluster_state.proofs.reading.bindings_in.Goals as goal

pub loop-name-preserved : goal.loop-name-preserved
loop-name-preserved c = record {
  left =
      viewed binding_view (or_invalid_binding c.in-Some.name.now.now (binding_in c.in-Some.name.now.now (view c.in-Some.document.now.value.now))) c.binding.result
      c.loop-name.bindings.items c.in_ok-bindings.bindings.items c.binding.ensures c.in_ok-bindings.ensures.added _ (bindings_in (named_view c.next.new.self))
      (λ b is. bindings_next _ (named_view c.loop-name.name-iterator) (named_view c.next.new.self) c.in-Some.name.now.now (view c.in-Some.document.now.value.now) b
      (map binding_view c.loop-name.bindings.items) c.loop-name.invariant.left (ap named_view c.in-Some.ensures.steps) is);
}
