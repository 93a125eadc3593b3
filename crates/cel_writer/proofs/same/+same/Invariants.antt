-- Loop invariants of the functions of the cycle `same` (src/same.rt).
use Rattle.std.proofs.Common.{◌≡◌, drop, length}
use Rattle.cel_writer.proofs.Compared.{same_lists, same_pairs}
use Rattle.cel_writer.proofs.same.+same.Given as goal

abbrev pub invariant-are_same-loop-at : goal.invariant-are_same-loop-at
invariant-are_same-loop-at l = record {
  lengths : length l.a ≡ length l.b;
  left_over : same_lists l.a l.b ≡ same_lists (drop l.at l.a) (drop l.at l.b);
}

abbrev pub invariant-are_same_entries-loop-at : goal.invariant-are_same_entries-loop-at
invariant-are_same_entries-loop-at l = record {
  lengths : length l.a ≡ length l.b;
  left_over : same_pairs l.a l.b ≡ same_pairs (drop l.at l.a) (drop l.at l.b);
}
