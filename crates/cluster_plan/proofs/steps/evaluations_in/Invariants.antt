-- Loop invariants of `steps::evaluations_in`.
use Rattle.cluster_plan.proofs.Prelude.{◌≡◌, ◌++◌, binding_view, drop, evaluates, map, option_map, step_documents, step_view, view}
use Rattle.cluster_plan.proofs.steps.evaluations_in.Given as goal

abbrev pub invariant-loop-given : goal.invariant-loop-given
invariant-loop-given l = record {
  steps :
      map step_view l.steps.items
      ++ map (λ p. evaluates (binding_view l.binding) p (option_map (λ d. view d.value.now) l.namespace)) (map (option_map (λ d. view d.value.now)) (drop l.given-index l.params))
      ≡ map (λ p. evaluates (binding_view l.binding) p (option_map (λ d. view d.value.now) l.namespace)) (map (option_map (λ d. view d.value.now)) l.params);
  documents : map step_documents l.steps.items ++ map (λ p. (p, l.namespace)) (drop l.given-index l.params) ≡ map (λ p. (p, l.namespace)) l.params;
}
