-- Proofs of `images::making::made_file`: the result meets the contract.

use Rattle.review_runner.proofs.Prelude.{Ok, Err}
use Rattle.review_runner.proofs.MadeFiles.{of_failure}
use Rattle.admission.proofs.Results.{is_err}
use Rattle.review_runner.proofs.images.making.made_file.Goals as goal

pub returns-in_err-held-clause-made : goal.returns-in_err-held-clause-made
returns-in_err-held-clause-made g c = rw (is_err c.from_residual.ensures.1) (record { reading = Err _; is_reading = c.in_err-held.ensures.read; made = of_failure _ _ })

pub returns-clause-made : goal.returns-clause-made
returns-clause-made g c = record {
  reading = Ok c.in_ok-held.held.items;
  is_reading = c.in_ok-held.ensures.read;
  made = rw c.deref.ensures.value at c.file_by.ensures;
}
