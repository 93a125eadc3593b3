-- Proofs of `images::making::make_file`: the result meets the contract.

use Rattle.review_runner.proofs.Prelude.{ap, ◌∙◌, succeeded}
use Rattle.review_runner.proofs.MadeFiles.{not_made, not_written, was_written}
use Rattle.admission.proofs.Results.{is_err}
use Rattle.review_runner.proofs.images.making.make_file.Goals as goal

pub returns-in_err-file : goal.returns-in_err-file
returns-in_err-file g c =
    let file = c.in_err-file.ensures.made in
    rw (is_err c.from_residual.ensures.1) (not_made _ _ _ _ _ _ _ file.is_reading file.made c.in_err-file.ensures.known)

pub returns-in_err-write : goal.returns-in_err-write
returns-in_err-write g c =
    not_written _ _ _ _ _ _ _ _ _ _ c.from_residual-in_err-write.ensures.1 c.in_ok-file.ensures.made c.in_ok-file.ensures.known c.deref.ensures.value c.in_err-write.ensures

pub returns : goal.returns
returns g c =
    was_written _ _ _ _ _ _ _ c.in_ok-file.ensures.made (rw (c.deref.ensures.value, c.in_ok-file.ensures.known) at c.in_ok-write.ensures) (c.succeeded.ensures ∙ ap succeeded c.new.ensures.items)
