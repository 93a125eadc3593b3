-- Loop invariants of the functions of the cycle `same` (src/equality.rt).
use Rattle.value_store.proofs.Prelude.{◌≡◌, length, drop}
use Rattle.value_store.proofs.Pairs.{same_items_of, same_members_of}
use Rattle.value_store.proofs.equality.+same.Given as goal

abbrev pub invariant-same_items-loop-place : goal.invariant-same_items-loop-place
invariant-same_items-loop-place l = record {
  lengths : length l.left.items ≡ length l.right.items;
  left_over : same_items_of l.left.items l.right.items ≡ same_items_of (drop l.place l.left.items) (drop l.place l.right.items);
}

abbrev pub invariant-same_members-loop-key : goal.invariant-same_members-loop-key
invariant-same_members-loop-key l = same_members_of l.left.entries l.right.entries ≡ same_members_of l.key-iterator l.others
