-- Proofs of `reading::policies_in`: each turn of the loop keeps the invariant.

use Rattle.cluster_state.proofs.Prelude.{◌∙◌, ap, binding_view, map, named_view, policies_in, policy_in, policy_view, sym, view}
use Rattle.cluster_state.specs.Reading.{or_invalid_policy}
use Rattle.cluster_state.proofs.Appended.{policies_next, viewed}
use Rattle.cluster_state.proofs.reading.policies_in.Goals as goal

pub loop-name-preserved-then-is_bound : goal.loop-name-preserved-then-is_bound
loop-name-preserved-then-is_bound c = record {
  left =
      viewed policy_view (or_invalid_policy c.in-Some.name.now.now (policy_in c.in-Some.name.now.now (view c.in-Some.document.now.value.now))) c.policy.result
      c.loop-name.policies.items c.in_ok-policies.policies.items c.policy.ensures c.in_ok-policies.ensures.added _
      (policies_in (map binding_view c.args.bindings.now) (named_view c.next.new.self))
      (λ p is. policies_next (map binding_view c.args.bindings.now) _ (named_view c.loop-name.name-iterator) (named_view c.next.new.self) c.in-Some.name.now.now
      (view c.in-Some.document.now.value.now) p (map policy_view c.loop-name.policies.items) c.loop-name.invariant.left (ap named_view c.in-Some.ensures.steps)
      (sym (c.is_bound.ensures c.args.bindings.now c.in_ok-names.ensures) ∙ c.if-is_bound.true) is);
}
