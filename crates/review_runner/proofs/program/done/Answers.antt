-- Proofs of `program::done`: the result meets the contract.

use Rattle.review_runner.proofs.Prelude.{Ok, Err, refl, ap, session}
use Rattle.review_runner.proofs.Programs.{as_task}
use Rattle.review_runner.specs.Output.{Done}
use Rattle.admission.proofs.Results.{is_err}
use Rattle.review_runner.proofs.program.done.Goals as goal

pub returns-in_err-debug-in-Debug : goal.returns-in_err-debug-in-Debug
returns-in_err-debug-in-Debug g c =
    rw (c.in-Debug.is, ← c.as_str.ensures.value, is_err c.from_residual.ensures.1) (session (Err _) c.in_err-debug-in-Debug.ensures.debugs c.in_err-debug-in-Debug.ensures.known)

pub returns-in_ok-debug-in-Debug : goal.returns-in_ok-debug-in-Debug
returns-in_ok-debug-in-Debug g c =
    rw (c.in-Debug.is, ← c.as_str.ensures.value) (
      Ok 0,
      session (Ok tt) c.in_ok-debug-in-Debug.ensures.debugs c.in_ok-debug-in-Debug.ensures.known,
      record { status = ap (λ (o : Done). o.status) c.nothing.ensures; line = ap (λ (o : Done). o.err) c.nothing.ensures },
    )

pub returns-in-Compile : goal.returns-in-Compile
returns-in-Compile g c = as_task _ _ _ c.answer.result c.answer.ensures refl
