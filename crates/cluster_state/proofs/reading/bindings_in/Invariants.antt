-- Loop invariant of `reading::bindings_in`.

use Rattle.cluster_state.proofs.Prelude.{map, binding_view, named_view}
use Rattle.cluster_state.proofs.Held.{BindingsGo}
use Rattle.cluster_state.proofs.reading.bindings_in.Given as goal

abbrev pub invariant-loop-name : goal.invariant-loop-name
invariant-loop-name l = BindingsGo (named_view l.initial.name-iterator) (named_view l.name-iterator) (map binding_view l.bindings.items)
