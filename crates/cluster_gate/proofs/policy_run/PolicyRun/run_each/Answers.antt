-- Proof obligations of `policy_run::PolicyRun::run_each`.
use Rattle.std.proofs.Common.{rules}
use Rattle.std.proofs.lemmas.List.{nil_from_length}
use Rattle.std.specs.Borrow.{Bor}
use Rattle.std.specs.Vec.Iter.{into_iter_items}
use Rattle.cluster_state.specs.Bindings.{binding_view}
use Rattle.cluster_state.specs.declared.binding.Binding.{Binding as CodeBinding}
use Rattle.cluster_gate.proofs.Prelude.{List, ap, arith, asked_view, binding_steps, false, length, map, request_view, state_view, subst, true, AddsBindings}
use Rattle.cluster_gate.proofs.Runs.{bound_all, bound_last, bound_more, bound_none}
use Rattle.cluster_gate.proofs.policy_run.PolicyRun.run_each.Goals as goal

pub loop-binding-init : goal.loop-binding-init
loop-binding-init c = record { go = λ language p of. bound_none language p c.args.self.now _ c.args.events.now; long = search rules }

pub returns-then-branch : goal.returns-then-branch
returns-then-branch c language p of =
    let steps = λ (b : Bor CodeBinding). binding_steps (state_view c.args.state.now) (asked_view c.args.asked.now) (request_view c.args.self.now.case.now.request.now) (binding_view b.now) in
    let step = c.in-Some.ensures.steps in
    subst (λ (bs : List (Bor CodeBinding)). AddsBindings language p c.args.self.now (map steps bs) c.args.events.now c.run_binding.new.events true) c.into_iter-binding-iterator.ensures.into_iter_gives.0
    (bound_last language p c.args.self.now (map steps (into_iter_items c.into_iter-binding-iterator.result)) c.args.events.now (steps c.in-Some.binding) (map steps (into_iter_items c.next.new.self))
    (map steps (into_iter_items c.loop-binding.binding-iterator)) c.loop-binding.events c.run_binding.new.events (ap (map steps) step.0)
    (c.loop-binding.invariant.go language p of) (rw c.if-branch.true at (c.in_ok-run_binding.ensures language p of)))

pub loop-binding-preserved : goal.loop-binding-preserved
loop-binding-preserved c =
    let steps = λ (b : Bor CodeBinding). binding_steps (state_view c.args.state.now) (asked_view c.args.asked.now) (request_view c.args.self.now.case.now.request.now) (binding_view b.now) in
    let step = c.in-Some.ensures.steps in record {
      go = λ language p of.
          bound_more language p c.args.self.now (map steps (into_iter_items c.into_iter-binding-iterator.result)) c.args.events.now (steps c.in-Some.binding) (map steps (into_iter_items c.next.new.self))
          (map steps (into_iter_items c.loop-binding.binding-iterator)) c.loop-binding.events c.run_binding.new.events (ap (map steps) step.0)
          (c.loop-binding.invariant.go language p of) (rw c.if-branch.false at (c.in_ok-run_binding.ensures language p of));
      long = omega (arith, c.loop-binding.invariant.long, ap length step.0, step.1);
    }

pub returns : goal.returns
returns c language p of =
    let steps = λ (b : Bor CodeBinding). binding_steps (state_view c.args.state.now) (asked_view c.args.asked.now) (request_view c.args.self.now.case.now.request.now) (binding_view b.now) in
    let l = c.loop-binding in
    let none = nil_from_length (into_iter_items l.binding-iterator) (omega (arith, l.invariant.long, c.in-None.ensures.steps.0)) in
    subst (λ (bs : List (Bor CodeBinding)). AddsBindings language p c.args.self.now (map steps bs) c.args.events.now l.events false) c.into_iter-binding-iterator.ensures.into_iter_gives.0
    (bound_all language p c.args.self.now (map steps (into_iter_items c.into_iter-binding-iterator.result)) c.args.events.now l.events (map steps (into_iter_items l.binding-iterator))
    (ap (map steps) none) (l.invariant.go language p of))
