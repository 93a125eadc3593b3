-- Loop invariant of `lists::append`.

use Rattle.cluster_state.proofs.Prelude.{◌≡◌, ◌++◌, drop, map, view}
use Rattle.cluster_state.proofs.lists.append.Given as goal

abbrev pub invariant-loop-item : goal.invariant-loop-item
invariant-loop-item l =
    map (λ d. view d.now) l.documents.items ++ map view (drop l.item-index l.items)
    ≡ map (λ d. view d.now) l.initial.documents.items ++ map view l.items
