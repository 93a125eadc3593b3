-- Loop invariants of `place_in` (src/members.rt).
use Rattle.value_store.proofs.Prelude.{◌≡◌, ◌+◌, length, option_map, members_view, place_of_key, plain_entries}
use Rattle.value_store.proofs.members.place_in.Given as goal

abbrev pub invariant-loop-own : goal.invariant-loop-own
invariant-loop-own l = record {
  counted : l.place + length l.own-iterator ≡ length l.members.entries;
  left_over : place_of_key l.key (plain_entries (members_view l.members.entries)) ≡ option_map (λ i. l.place + i) (place_of_key l.key (plain_entries (members_view l.own-iterator)));
}
