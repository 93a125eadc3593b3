-- Loop invariants of `policy_run::PolicyRun::run_each`.
use Rattle.std.specs.Vec.Iter.{into_iter_items, into_iter_len}
use Rattle.cluster_state.specs.Bindings.{binding_view}
use Rattle.cluster_gate.proofs.Prelude.{◌≡◌, asked_view, binding_steps, length, map, request_view, state_view, BoundBefore, BoundPolicy, IsRunOf}
use Rattle.cluster_gate.proofs.policy_run.PolicyRun.run_each.Given as goal
use Rattle.admission.specs.declared.language.Language.{Language}

abbrev pub invariant-loop-binding : goal.invariant-loop-binding
invariant-loop-binding l =
    let steps = binding_steps (state_view l.state) (asked_view l.asked) (request_view l.self.case.now.request.now) in record {
      go : (language : Language) (p : BoundPolicy) → IsRunOf language p l.self
          → BoundBefore language p l.self (map (λ b. steps (binding_view b.now)) (into_iter_items l.initial.binding-iterator))
          (map (λ b. steps (binding_view b.now)) (into_iter_items l.binding-iterator)) l.fn.events l.events;
      long : into_iter_len l.binding-iterator ≡ length (into_iter_items l.binding-iterator);
    }
