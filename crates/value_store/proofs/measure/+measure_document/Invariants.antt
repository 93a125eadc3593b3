-- Loop invariants of the functions of the cycle `measure_document` (src/measure.rt).
use Rattle.value_store.proofs.Prelude.{drop, items_view, members_view, AreElementsOrdered, AreMembersOrdered}
use Rattle.value_store.proofs.Measures.{ItemsMeasured, MembersMeasured}
use Rattle.value_store.proofs.measure.+measure_document.Given as goal

abbrev pub invariant-measure_items-loop-item : goal.invariant-measure_items-loop-item
invariant-measure_items-loop-item l = record {
  measured : ItemsMeasured (items_view l.item-items) (items_view (drop l.item-index l.item-items)) l.all;
  ordered : AreElementsOrdered (items_view (drop l.item-index l.item-items)) → AreElementsOrdered (items_view l.item-items);
}

abbrev pub invariant-measure_members-loop-key : goal.invariant-measure_members-loop-key
invariant-measure_members-loop-key l = record {
  measured : MembersMeasured (members_view l.initial.key-iterator) (members_view l.key-iterator) l.all;
  ordered : AreMembersOrdered (members_view l.key-iterator) → AreMembersOrdered (members_view l.initial.key-iterator);
}
