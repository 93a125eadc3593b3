-- Loop invariant of `params::selected_of`.

use Rattle.cluster_state.proofs.Prelude.{◌≡◌, ◌++◌, selector_view}
use Rattle.cluster_state.specs.Numbers.{selected_of}
use Rattle.cluster_state.proofs.params.selected_of.Given as goal

abbrev pub invariant-loop-name : goal.invariant-loop-name
invariant-loop-name l =
    l.objects.items ++ selected_of (selector_view l.selector) l._name-iterator ≡ selected_of (selector_view l.selector) l.initial._name-iterator
