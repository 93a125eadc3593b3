-- Proofs of `images::running::run_image`: the result meets the contract.

use Rattle.review_runner.proofs.Prelude.{refl, run_of_file}
use Rattle.admission.proofs.Results.{is_err}
use Rattle.review_runner.proofs.images.running.run_image.Goals as goal

pub returns-in_err-steps : goal.returns-in_err-steps
unfolding run_of_file
returns-in_err-steps c = rw (is_err c.from_residual-in_err-steps.ensures.1, c.in_ok-image.ensures.loads) refl
