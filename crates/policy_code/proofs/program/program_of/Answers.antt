-- Proofs of `program::program_of`: the result meets the contract.

use Rattle.policy_code.proofs.Prelude.{Err, ap, arith, IsTooLong}
use Rattle.policy_code.proofs.Emission.{answers_long, answers_program, answers_texts, no_error}
use Rattle.policy_code.proofs.program.program_of.Goals as goal

pub returns-in-Ok : goal.returns-in-Ok
returns-in-Ok c = λ t is.
    let ends = c.in-Ok.ensures in
    let short : IsTooLong c.in_ok-emitter.emitter → ⊥ = λ long. no_error c.in-Ok.program _ (ends.g3.1 long) in
    answers_program c.args.failure_policy c.args.checked.now t is c.in_ok-emitter.emitter c.in_ok-emitter.ensures c.in-Ok.program.0.items c.in-Ok.program.1.items short (λ many. no_error c.in-Ok.program _ (ends.g4.1 (short, many))) ends.code ends.constants

pub returns-in-Err-TooManyNodes : goal.returns-in-Err-TooManyNodes
returns-in-Err-TooManyNodes c = λ t is some. answers_long c.args.failure_policy c.args.checked.now t is c.in_ok-emitter.emitter c.in_ok-emitter.ensures (c.in-Err-TooManyNodes.ensures.g3.0 (ap Err c.in-Err-TooManyNodes.field-0-is))

pub returns-in-Err-TooManyTextBytes : goal.returns-in-Err-TooManyTextBytes
returns-in-Err-TooManyTextBytes c = grind (arith, answers_texts)
