-- Proofs of `images::listing::list_file`: the result meets the contract.

use Rattle.review_runner.proofs.Prelude.{lacks_memory}
use Rattle.review_runner.proofs.Readings.{not_listed, opened_unrefused, was_listed}
use Rattle.admission.proofs.Results.{is_err}
use Rattle.review_runner.proofs.images.listing.list_file.Goals as goal

pub returns-in_err-opened-clause-lists : goal.returns-in_err-opened-clause-lists
returns-in_err-opened-clause-lists g c = rw (is_err c.from_residual.ensures.1) (not_listed _ _ _ _ c.in_err-opened.ensures.opens c.in_err-opened.ensures.known)

pub returns-in_err-list_image-clause-lists : goal.returns-in_err-list_image-clause-lists
returns-in_err-list_image-clause-lists g c =
    rw (is_err c.from_residual-in_err-list_image.ensures.1) (lacks_memory (c.in_ok-opened.ensures.known, opened_unrefused _ _ _ c.in_ok-opened.ensures.opens))

pub returns-clause-lists : goal.returns-clause-lists
returns-clause-lists g c = was_listed _ _ _ _ _ c.in_ok-opened.ensures.opens c.in_ok-opened.ensures.known c.in_ok-list_image.ensures
