-- Proofs of `images::opening::open`: the result meets the contract.

use Rattle.review_runner.proofs.Prelude.{Ok, Err}
use Rattle.review_runner.proofs.Readings.{read_failed}
use Rattle.admission.proofs.Results.{is_err}
use Rattle.review_runner.proofs.images.opening.open.Goals as goal

pub returns-in_err-file-clause-opens : goal.returns-in_err-file-clause-opens
returns-in_err-file-clause-opens g c = rw (is_err c.from_residual.ensures.1) (record { reading = Err _; is_reading = c.in_err-file.ensures.read; opens = read_failed _ _ })

pub returns-clause-opens : goal.returns-clause-opens
returns-clause-opens g c = record {
  reading = Ok c.in_ok-file.file.items;
  is_reading = c.in_ok-file.ensures.read;
  opens = rw c.deref.ensures.value at c.image_in.ensures;
}
