-- Proofs of `images::compiling::compiled_file`: the result meets the contract.

use Rattle.review_runner.proofs.Prelude.{inr, refl, image}
use Rattle.review_runner.proofs.PolicyFiles.{refused_so}
use Rattle.admission.proofs.Results.{is_err}
use Rattle.review_runner.proofs.images.compiling.compiled_file.Goals as goal

pub returns-in_err-compiled : goal.returns-in_err-compiled
returns-in_err-compiled c = rw (is_err c.from_residual.ensures.1) (refused_so _ _ c.in_err-compiled.ensures.compiles)

pub returns-in_err-file : goal.returns-in_err-file
returns-in_err-file c = rw (is_err c.from_residual-in_err-file.ensures.1) (inr (refl, λ e. cc))

pub returns : goal.returns
returns c = rw c.in_ok-file.ensures (image c.in_ok-compiled.ensures.compiles.0 c.in_ok-compiled.ensures.compiles.1 c.in_ok-compiled.ensures.one)
