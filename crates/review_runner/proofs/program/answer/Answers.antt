-- Proofs of `program::answer`: the result meets the contract.

use Rattle.review_runner.proofs.Prelude.{Err, refl}
use Rattle.review_runner.specs.Program.{refused}
use Rattle.review_runner.proofs.Programs.{was_cut, was_put}
use Rattle.admission.proofs.Results.{is_err}
use Rattle.review_runner.proofs.program.answer.Goals as goal

pub returns-in_err-done : goal.returns-in_err-done
returns-in_err-done g c = rw (is_err c.from_residual.ensures.1) (record { outcome = Err _; performs = c.in_err-done.ensures.lacks; delivers = refused refl })

pub returns-in-Ok : goal.returns-in-Ok
returns-in-Ok g c = was_put _ _ _ _ _ _ c.in_ok-done.ensures.done (rw c.deref.ensures.value at c.in-Ok.ensures)

pub returns-in-Err : goal.returns-in-Err
returns-in-Err g c = was_cut _ _ _ _ _ c.in_ok-done.done c.in_ok-done.ensures.done (rw c.deref.ensures.value at c.in-Err.ensures)
