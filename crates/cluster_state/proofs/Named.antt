-- The names of policies that bindings refer to.
use Rattle.cluster_state.proofs.Prelude.{◌≡◌, ◌∙◌, ◌+◌, ◌++◌, ◌∷◌, ℕ, true, List, [], ap, arith, is_eq-slice_cmp, list_any, nat_cmp, slice_cmp, sym, Bor, CodeBinding}
use Rattle.std.proofs.Common.{◌<◌, get_or, length, take}
use Rattle.std.proofs.lemmas.List.{take_more}
use Rattle.std.proofs.lemmas.List.Folds.{list_any-append}
use Rattle.std.specs.BTreeSet.{BTreeSet, IsEmpty, Updates}
use Rattle.std.specs.Ordering.{is_eq}
use Rattle.cluster_state.specs.Names.{HoldsPolicyNames}

pub names_none : (names : BTreeSet (Bor (List ℕ))) → IsEmpty names → HoldsPolicyNames names []
names_none names none name = ap (λ ks. list_any (λ k. is_eq (slice_cmp nat_cmp name.now k.now)) ks) none

pub front_next : (all : List CodeBinding) (i : ℕ) (x : CodeBinding) → i < length all → x ≡ get_or all i x → take (i + 1) all ≡ take i all ++ x ∷ []
front_next all i x within is = take_more all i x within ∙ ap (λ y. take i all ++ y ∷ []) (sym is)

pub names_more : (all : List CodeBinding) (i : ℕ) (x : CodeBinding) (names more : BTreeSet (Bor (List ℕ))) → i < length all → x ≡ get_or all i x
    → HoldsPolicyNames names (take i all) → Updates (λ x y. slice_cmp nat_cmp x.now y.now) names more x.policy_name true → HoldsPolicyNames more (take (i + 1) all)
names_more all i x names more within is has updates name =
    let same = is_eq-slice_cmp x.policy_name.now name.now in
    grind (arith, same, updates.0 name, has name, list_any-append, front_next all i x within is)
