-- Items of arrays.
use Rattle.std.proofs.Common.{◌≡◌, ◌≤◌, arith, false, List, [], ◌∷◌, length, refl}
use Rattle.serde_json.specs.View.{items_view}
use Rattle.serde_json.specs.declared.value.Value.{Value}
use Rattle.wide_policy.specs.WideDocuments.{has_no_items}

pub some_items : (vs : List Value) → 1 ≤ length vs → has_no_items (items_view vs) ≡ false
some_items [] some = absurd (omega arith)
some_items (v ∷ vs) some = refl
