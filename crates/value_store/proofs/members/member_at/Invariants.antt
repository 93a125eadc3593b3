-- Loop invariants of `member_at` (src/members.rt).
use Rattle.value_store.proofs.Prelude.{◌≡◌, members_view, nth_member}
use Rattle.value_store.proofs.members.member_at.Given as goal

abbrev pub invariant-loop-key : goal.invariant-loop-key
invariant-loop-key l = nth_member l.place (members_view l.members.entries) ≡ nth_member l.left (members_view l.key-iterator)
