-- Loop invariants and measures of `compare_lists` (src/order.rt).
use Rattle.std.proofs.Common.{◌≡◌, true, length}
use Rattle.versions.specs.Identifiers.{are_pre_identifiers}
use Rattle.versions.specs.Order.{identifiers_cmp}
use Rattle.versions.proofs.order.compare_lists.Given as goal

abbrev pub invariant-identifiers : goal.invariant-identifiers
invariant-identifiers l = record {
  first : are_pre_identifiers l.x ≡ true;
  second : are_pre_identifiers l.y ≡ true;
  same : identifiers_cmp l.x l.y ≡ identifiers_cmp l.a l.b;
}

abbrev pub decreases-identifiers : goal.decreases-identifiers
decreases-identifiers l = length l.x
