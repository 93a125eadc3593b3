-- The names of policies.
use Rattle.std.specs.Prelude.{◌≡◌, ℕ, List, bytes_eq}
use Rattle.std.specs.BTreeSet.{BTreeSet, contains}
use Rattle.std.specs.Borrow.{Bor}
use Rattle.std.specs.Cmp.Lexicographic.{slice_cmp}
use Rattle.std.specs.List.{list_any}
use Rattle.std.specs.Ordering.{nat_cmp}
use Rattle.cluster_state.specs.declared.binding.Binding.{Binding}

-- these are the names of the policies that the bindings refer to
abbrev pub HoldsPolicyNames : BTreeSet (Bor (List ℕ)) → List Binding → Type 0
HoldsPolicyNames names bs =
    (name : Bor (List ℕ))
    → contains (λ x y. slice_cmp nat_cmp x.now y.now) names name ≡ list_any (λ b. bytes_eq b.policy_name.now name.now) bs
