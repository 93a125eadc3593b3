-- Loop invariants of `documents::add_document`.

use Rattle.value_table.proofs.Prelude.{◌≡◌, length, map, string_bytes, into_iter_items, into_iter_len, items_view, members_view, plain_items, plain_entries, heap_values, IsHeap, HasGrown}
use Rattle.value_table.proofs.Growing.{ItemsStand, MembersStand}
use Rattle.value_table.proofs.documents.+add_document.Given as goal

abbrev pub invariant-add_items-loop-item : goal.invariant-add_items-loop-item
invariant-add_items-loop-item l = record {
  heap : IsHeap l.heap;
  grown : HasGrown (heap_values l.fn.heap) (heap_values l.heap);
  items : ItemsStand (plain_items (items_view (into_iter_items l.initial.item-iterator))) (heap_values l.heap) l.places.items (items_view (into_iter_items l.item-iterator));
  long : into_iter_len l.item-iterator ≡ length (into_iter_items l.item-iterator);
}

abbrev pub invariant-add_members-loop-key : goal.invariant-add_members-loop-key
invariant-add_members-loop-key l = record {
  heap : IsHeap l.heap;
  grown : HasGrown (heap_values l.fn.heap) (heap_values l.heap);
  members : MembersStand (plain_entries (members_view l.initial.key-iterator)) (heap_values l.heap) (map string_bytes l.keys.items) l.places.items (members_view l.key-iterator);
}
