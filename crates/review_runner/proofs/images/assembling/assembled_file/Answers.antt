-- Proofs of `images::assembling::assembled_file`: the result meets the contract.

use Rattle.review_runner.proofs.Prelude.{inl, no_text}
use Rattle.review_runner.proofs.Assembled.{of_cause, of_code}
use Rattle.admission.proofs.Results.{is_err}
use Rattle.review_runner.proofs.images.assembling.assembled_file.Goals as goal

pub returns-in_default : goal.returns-in_default
returns-in_default c = inl (no_text c.in_default.ensures.cases.0)

pub returns-in_err-code : goal.returns-in_err-code
returns-in_err-code c =
    let same = c.in-Ok.ensures.cases.0 in
    rw (is_err c.from_residual.ensures.1, ← same) (of_cause _ _ (rw (← same) at c.in-Ok.ensures.cases.1) c.in_err-code.ensures.answers)

pub returns : goal.returns
returns c = of_code _ _ _ c.in-Ok.ensures.cases.1 (rw c.in-Ok.ensures.cases.0 at c.in_ok-code.ensures.answers) c.file_of.ensures
