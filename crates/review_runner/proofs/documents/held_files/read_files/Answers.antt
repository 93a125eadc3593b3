-- Proofs of `documents::held_files::read_files`: the result meets the contract.

use Rattle.review_runner.proofs.Prelude.{Ok, Err}
use Rattle.review_runner.proofs.HeldFiles.{holds, unread}
use Rattle.admission.proofs.Results.{is_err}
use Rattle.review_runner.proofs.documents.held_files.read_files.Goals as goal

pub returns-in_err-subject-clause-held : goal.returns-in_err-subject-clause-held
returns-in_err-subject-clause-held g c =
    rw (is_err c.from_residual.ensures.1) (holds _ _ _ (Err _) c.in_err-subject.ensures.read (unread _ _) (unread _ _) (unread _ _))

pub returns-in_err-review-clause-held : goal.returns-in_err-review-clause-held
returns-in_err-review-clause-held g c =
    let review = rw c.in_ok-subject.ensures.known at c.in_err-review.ensures.read in
    rw (is_err c.from_residual-in_err-review.ensures.1) (holds _ _ _ (Ok _) c.in_ok-subject.ensures.read (_, review) (unread _ _) (unread _ _))

pub returns-in_err-namespace-clause-held : goal.returns-in_err-namespace-clause-held
returns-in_err-namespace-clause-held g c =
    let review = rw c.in_ok-subject.ensures.known at c.in_ok-review.ensures.read in
    let namespace = rw (c.in_ok-review.ensures.known, c.in_ok-subject.ensures.known) at c.in_err-namespace.ensures.read in
    rw (is_err c.from_residual-in_err-namespace.ensures.1) (holds _ _ _ (Ok _) c.in_ok-subject.ensures.read (_, review) (_, namespace) (unread _ _))

pub returns-in_err-params-clause-held : goal.returns-in_err-params-clause-held
returns-in_err-params-clause-held g c =
    let review = rw c.in_ok-subject.ensures.known at c.in_ok-review.ensures.read in
    let namespace = rw (c.in_ok-review.ensures.known, c.in_ok-subject.ensures.known) at c.in_ok-namespace.ensures.read in
    let params = rw (c.in_ok-namespace.ensures.known, c.in_ok-review.ensures.known, c.in_ok-subject.ensures.known) at c.in_err-params.ensures.read in
    rw (is_err c.from_residual-in_err-params.ensures.1) (holds _ _ _ (Ok _) c.in_ok-subject.ensures.read (_, review) (_, namespace) (_, params))

pub returns-clause-held : goal.returns-clause-held
returns-clause-held g c =
    let review = rw c.in_ok-subject.ensures.known at c.in_ok-review.ensures.read in
    let namespace = rw (c.in_ok-review.ensures.known, c.in_ok-subject.ensures.known) at c.in_ok-namespace.ensures.read in
    let params = rw (c.in_ok-namespace.ensures.known, c.in_ok-review.ensures.known, c.in_ok-subject.ensures.known) at c.in_ok-params.ensures.read in
    holds _ _ _ (Ok _) c.in_ok-subject.ensures.read (_, review) (_, namespace) (_, params)
