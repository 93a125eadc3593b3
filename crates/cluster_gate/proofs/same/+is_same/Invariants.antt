-- Loop invariants of `same::is_same`.
use Rattle.cluster_gate.proofs.Prelude.{◌≡◌, drop}
use Rattle.serde_json.specs.View.{items_view, members_view}
use Rattle.cluster_gate.proofs.same.+is_same.Given as goal

abbrev pub invariant-are_same_items-loop-i : goal.invariant-are_same_items-loop-i
invariant-are_same_items-loop-i l = items_view (drop l.i l.one.items) ≡ items_view (drop l.i l.other.items) → items_view l.one.items ≡ items_view l.other.items

abbrev pub invariant-are_same_members-loop-key : goal.invariant-are_same_members-loop-key
invariant-are_same_members-loop-key l = members_view l.key-iterator ≡ members_view l.others → members_view l.one.entries ≡ members_view l.other.entries
