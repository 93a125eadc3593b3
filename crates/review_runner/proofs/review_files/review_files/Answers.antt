-- Proofs of `review_files::review_files`: the result meets the contract; its calls meet their requirements.

use Rattle.review_runner.proofs.Prelude.{Err, performs, unread}
use Rattle.review_runner.proofs.PolicyFiles.{has_review, was_held}
use Rattle.admission.proofs.Results.{is_err}
use Rattle.review_runner.proofs.review_files.review_files.Goals as goal

pub review_held-requires : goal.review_held-requires
review_held-requires g c = has_review _ _ _ _ _ _ c.in_ok-held.ensures.held

pub returns-in_err-held-clause-reviews : goal.returns-in_err-held-clause-reviews
returns-in_err-held-clause-reviews g c =
    let holds = rw (c.as_str-policy.ensures.value, c.as_str-review.ensures.value) at c.in_err-held.ensures.held in
    rw (is_err c.from_residual.ensures.1) (performs (record { held = Err _; holds = holds; stays = c.in_err-held.ensures.known; reviews = unread }))

pub returns-clause-reviews : goal.returns-clause-reviews
returns-clause-reviews g c =
    let holds = rw (c.as_str-policy.ensures.value, c.as_str-review.ensures.value) at c.in_ok-held.ensures.held in
    was_held _ _ _ _ _ _ holds (has_review _ _ _ _ _ _ holds) c.in_ok-held.ensures.known c.review_held.ensures
