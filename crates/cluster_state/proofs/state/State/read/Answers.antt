-- Proofs of `state::State::read`: the result meets the contract.

use Rattle.cluster_state.specs.Numbers.{HasNumbers}
use Rattle.cluster_state.specs.declared.objects.Objects.{Objects as CodeObjects}
use Rattle.cluster_state.proofs.Prelude.{◌∙◌, CodeItem, List, ap, binding_view, item_view, map, objects_of, objects_view, policies, policies_in, policy_view, refl, subst, sym}
use Rattle.cluster_state.proofs.Whole.{state_whole}
use Rattle.cluster_state.proofs.state.State.read.Goals as goal

pub returns : goal.returns
returns c =
    let o = c.in_ok-objects.ensures.read
    in (
      record { items = map item_view c.in_ok-items.items.items; objects = o.0; bindings = map binding_view c.in_ok-bindings.bindings.items; policies = map policy_view c.in_ok-policies.policies.items },
      state_whole _ _ o.0 (objects_view c.in_ok-objects.objects) _ _ c.in_ok-items.ensures
          (ap (λ x. objects_of (map item_view x)) (sym c.deref.ensures.value) ∙ o.1) o.2 c.in_ok-bindings.ensures
          (ap (λ x. policies_in (map binding_view x) (objects_view c.in_ok-objects.objects policies)) (sym c.deref-2.ensures.value) ∙ c.in_ok-policies.ensures),
      record { items = ap (map item_view) c.in_ok-items-2.ensures; objects = λ d. ap (λ (x : CodeObjects). objects_view x d) c.in_ok-objects-2.ensures ∙ o.2 d; bindings = ap (map binding_view) c.in_ok-bindings-2.ensures; policies = refl },
    )

pub invariant_of-result : goal.invariant_of-result
invariant_of-result c = record {
  numbered =
      subst (λ (is : List CodeItem). HasNumbers (map item_view is) c.in_ok-objects-2.objects.all.collections) (sym c.in_ok-items-2.ensures)
      (subst (λ (o : CodeObjects). HasNumbers (map item_view c.in_ok-items.items.items) o.collections) (sym c.in_ok-objects-2.ensures)
      (subst (λ (is : List CodeItem). HasNumbers (map item_view is) c.in_ok-objects.objects.collections) c.deref.ensures.value c.in_ok-objects.ensures.numbered));
}
