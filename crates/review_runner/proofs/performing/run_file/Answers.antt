-- Proofs of `performing::run_file`: the result meets the contract.

use Rattle.review_runner.proofs.Prelude.{Ok, Err}
use Rattle.review_runner.proofs.Readings.{ran, read_failed}
use Rattle.admission.proofs.Results.{is_err}
use Rattle.review_runner.proofs.performing.run_file.Goals as goal

pub returns-in_err-file-clause-runs : goal.returns-in_err-file-clause-runs
returns-in_err-file-clause-runs g c =
    rw (is_err c.from_residual.ensures.1) (ran _ _ _ _ (Err _) _ c.in_err-file.ensures.read c.in_err-file.ensures.known (read_failed _ _))

pub returns-clause-runs : goal.returns-clause-runs
returns-clause-runs g c =
    ran _ _ _ _ (Ok c.in_ok-file.file.items) _ c.in_ok-file.ensures.read c.in_ok-file.ensures.known (rw c.deref.ensures.value at c.run_held.ensures)
