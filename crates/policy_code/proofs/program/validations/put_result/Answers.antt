-- Proofs of `program::validations::put_result`: its calls meet their requirements.

use Rattle.policy_code.proofs.Prelude.{◌≡◌, ◌+◌, ap, sym, ◌∙◌, arith, slice_get, slot_count, core_view, with_insn_at, leave_error}
use Rattle.policy_code.proofs.Emission.{few_between, jump_stands, leave_stands}
use Rattle.policy_code.proofs.program.validations.put_result.Goals as goal

pub if_true-requires-in-Some : goal.if_true-requires-in-Some
if_true-requires-in-Some c =
    let single : slot_count c.if_true.result ≡ 1 = ap slot_count c.if_true.ensures in
    let few = few_between c.args.which.failure_policy c.args.which.place c.args.scope.now (core_view c.in-Some.core) c.args.emitter.now c.put.new.self c.put_each.new.emitter c.put_message.new.emitter c.if_true.result c.denial_code.result single c.denial_code.ensures c.in_ok-first.ensures.code c.in_ok-put_each.ensures c.in_ok-last.ensures.added c.in_ok-last.last c.in_ok-last.ensures.last in
    let at = c.in_ok-first.ensures.ok in
    let near = few.0 in
    omega (arith, near, at)

pub patch-requires : goal.patch-requires
patch-requires c =
    let single : slot_count c.if_true.result ≡ 1 = ap slot_count c.if_true.ensures in
    let other : slot_count c.if_true-in-Some.result ≡ 1 = ap slot_count c.if_true-in-Some.ensures in
    let stands = jump_stands c.args.which.failure_policy c.args.which.place c.args.scope.now (core_view c.in-Some.core) c.args.emitter.now c.put.new.self c.put_each.new.emitter c.put_message.new.emitter c.if_true.result c.denial_code.result single c.denial_code.ensures c.in_ok-first.ensures.code c.in_ok-put_each.ensures c.in_ok-last.ensures.added in
    (c.if_true.result, ap (λ n. slice_get c.put_message.new.emitter.code n) c.in_ok-first.ensures.ok ∙ stands, single ∙ sym other)

pub overflow_add-first : goal.overflow_add-first
overflow_add-first c =
    let single : slot_count c.if_true.result ≡ 1 = ap slot_count c.if_true.ensures in
    let few = few_between c.args.which.failure_policy c.args.which.place c.args.scope.now (core_view c.in-Some.core) c.args.emitter.now c.put.new.self c.put_each.new.emitter c.put_message.new.emitter c.if_true.result c.denial_code.result single c.denial_code.ensures c.in_ok-first.ensures.code c.in_ok-put_each.ensures c.in_ok-last.ensures.added c.in_ok-last.last c.in_ok-last.ensures.last in
    let at = c.in_ok-first.ensures.ok in
    let behind = few.1 in
    omega (arith, behind, at)

pub overflow_sub-last-in-Some-2 : goal.overflow_sub-last-in-Some-2
overflow_sub-last-in-Some-2 c =
    let single : slot_count c.if_true.result ≡ 1 = ap slot_count c.if_true.ensures in
    let few = few_between c.args.which.failure_policy c.args.which.place c.args.scope.now (core_view c.in-Some.core) c.args.emitter.now c.put.new.self c.put_each.new.emitter c.put_message.new.emitter c.if_true.result c.denial_code.result single c.denial_code.ensures c.in_ok-first.ensures.code c.in_ok-put_each.ensures c.in_ok-last.ensures.added c.in_ok-last.last c.in_ok-last.ensures.last in
    let at = c.in_ok-first.ensures.ok in
    let behind = few.1 in
    omega (arith, behind, at)

pub patch-requires-in-Some : goal.patch-requires-in-Some
patch-requires-in-Some c =
    let first = c.in_ok-first.ensures.ok in
    let single : slot_count c.if_true.result ≡ 1 = ap slot_count c.if_true.ensures in
    let put = c.patch.ensures ∙ ap (λ n. with_insn_at c.put_message.new.emitter n c.if_true-in-Some.result) first in
    let stands = leave_stands c.args.which.failure_policy c.args.which.place c.args.scope.now (core_view c.in-Some.core) c.args.emitter.now c.put.new.self c.put_each.new.emitter c.put_message.new.emitter c.if_true.result c.denial_code.result single c.denial_code.ensures c.in_ok-first.ensures.code c.in_ok-put_each.ensures c.in_ok-last.ensures.added c.patch.new.self c.if_true-in-Some.result put in
    (leave_error c.args.which.failure_policy 4, ap (λ n. slice_get c.patch.new.self.code (n + 5)) first ∙ stands, sym (ap slot_count c.leave_error.ensures))
