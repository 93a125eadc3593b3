-- Proofs of `objects::object`: the result meets the contract.

use Rattle.std.proofs.lemmas.Map.Views.{IfSome-lookup_from_All}
use Rattle.std.specs.Prelude.{IfSome}
use Rattle.cluster_state.specs.Numbers.{IsNumbered}
use Rattle.cluster_state.proofs.Prelude.{◌∙◌, ap, is_at, nat_cmp, option_map, slice_cmp, subst, sym, view}
use Rattle.cluster_state.proofs.Placed.{found_as}
use Rattle.cluster_state.proofs.objects.object.Goals as goal

pub returns-in-Some-clause-value : goal.returns-in-Some-clause-value
returns-in-Some-clause-value c =
    rw c.in-Some.is
    (ap (option_map (λ d. view d.value.now)) (c.copied.ensures ∙ c.get.ensures.value) ∙ found_as c.args.name.now c.in-Some.named.now.entries)

pub returns-in-Some-clause-numbered : goal.returns-in-Some-clause-numbered
returns-in-Some-clause-numbered c = rw c.in-Some.is (λ is are.
    subst (λ r. IfSome r (IsNumbered is)) (sym (c.copied.ensures ∙ c.get.ensures.value))
    (IfSome-lookup_from_All (IsNumbered is) (is_at (λ k. slice_cmp nat_cmp c.args.name.now k.now)) c.in-Some.named.now.entries are))
