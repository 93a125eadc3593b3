-- Proofs of `compiling::compile`: the result meets the contract; its calls meet their requirements.

use Rattle.policy_glue.proofs.Prelude.{Err, Ok, subst, from_program, IsChecked, CompilesTo, EmitsProgram, IsAcceptedPolicy, PolicyTree}
use Rattle.policy_glue.proofs.Compiles.{has_trees, image_compiled, image_due, image_is_one, none_passed, refused_part, refused_whole}
use Rattle.policy_glue.proofs.Judged.{passed_on}
use Rattle.policy_code.proofs.Programs.Sizes.{program_is_short}
use Rattle.policy_glue.proofs.compiling.compile.Goals as goal

pub returns-in_err-checked-clause-compiles : goal.returns-in_err-checked-clause-compiles
returns-in_err-checked-clause-compiles c =
    passed_on (CompilesTo c.args.policy.now) c.in_err-checked.field-0.0 c.from_residual.result (refused_part c.args.policy.now c.in_err-checked.field-0.0 c.in_err-checked.ensures) c.from_residual.ensures.0 c.from_residual.ensures.1

pub program_of-requires : goal.program_of-requires
program_of-requires c = has_trees c.args.policy.now c.in_ok-checked.checked (subst IsAcceptedPolicy c.parts.ensures.parts c.parts.ensures.accepted) c.in_ok-checked.ensures

pub returns-in_err-code-clause-compiles : goal.returns-in_err-code-clause-compiles
returns-in_err-code-clause-compiles c =
    let e = c.in_err-code.field-0.0 in
    let emits = subst (λ p. (t : PolicyTree) → IsChecked c.in_ok-checked.checked t → EmitsProgram p.failure_policy t (Err e)) c.parts.ensures.parts c.in_err-code.ensures in
    passed_on (CompilesTo c.args.policy.now) (from_program e) c.from_residual-in_err-code.result (refused_whole c.args.policy.now c.in_ok-checked.checked e c.in_ok-checked.ensures emits) c.from_residual-in_err-code.ensures.0 c.from_residual-in_err-code.ensures.1

pub image-requires : goal.image-requires
image-requires c =
    let checks = c.in_ok-checked.ensures in
    let emits = c.in_ok-code.ensures checks.0 checks.1 in
    image_due program_is_short c.args.policy.now c.in_ok-checked.checked c.parts.result.now.failure_policy c.in_ok-code.code.items c.in_ok-code.constants.items (subst IsAcceptedPolicy c.parts.ensures.parts c.parts.ensures.accepted) checks (none_passed checks.0 emits.0) emits.1 emits.2

pub returns : goal.returns
returns c =
    let checks = c.in_ok-checked.ensures in
    let emits = subst (λ p. (t : PolicyTree) → IsChecked c.in_ok-checked.checked t → EmitsProgram p.failure_policy t (Ok (c.in_ok-code.code, c.in_ok-code.constants))) c.parts.ensures.parts c.in_ok-code.ensures in
    let due = emits checks.0 checks.1 in
    let within = none_passed checks.0 due.0 in
    record {
      compiles = image_compiled program_is_short c.program_decides.ensures.decides c.program_decides.ensures.stops c.args.policy.now c.in_ok-checked.checked c.in_ok-code.code.items c.in_ok-code.constants.items c.image.result (subst IsAcceptedPolicy c.parts.ensures.parts c.parts.ensures.accepted) checks within due.1 due.2 c.image.ensures.is c.image.ensures.code c.image.ensures.constants;
      one = image_is_one c.args.policy.now c.in_ok-checked.checked c.in_ok-code.code.items c.in_ok-code.constants.items c.image.result checks within due.1 due.2 c.image.ensures.is;
    }
