-- Loop invariants of `start_charge` (src/roots.rt).
use Rattle.value_store.proofs.Prelude.{◌≡◌, ◌+◌, drop, map, AllByRecursion, view, IsDocumentOrdered}
use Rattle.value_store.proofs.Starting.{Judging}
use Rattle.value_store.proofs.roots.start_charge.Given as goal

abbrev pub invariant-loop-root : goal.invariant-loop-root
invariant-loop-root l = record {
  at : l.place ≡ 4 + l.root-index;
  go : Judging (map view l.roots) (map view (drop l.root-index l.roots)) l.place l.charge;
  ordered : AllByRecursion IsDocumentOrdered (map view (drop l.root-index l.roots)) → AllByRecursion IsDocumentOrdered (map view l.roots);
}
