-- Proof obligations of `cluster::Cluster::decide_document`.
use Rattle.cluster_gate.proofs.Prelude.{◌∙◌, ℕ, List, Some, ap, request_view, subst, sym, view, OneImage}
use Rattle.cluster_response.specs.Response.{cluster_response}
use Rattle.cluster_gate.specs.Dispatch.{DecidesInCluster, decided, no_review}
use Rattle.cluster_gate.proofs.Requested.{not_review, request_is, uid_is}
use Rattle.cluster_gate.proofs.cluster.Cluster.decide_document.Goals as goal

pub returns-in-None : goal.returns-in-None
returns-in-None c language s is document = no_review (not_review c.args.review.now (view c.args.document.now) document (sym c.in-None.ensures.document))

pub returns-in-None-of : goal.returns-in-None-of
returns-in-None-of c language s is document =
    no_review
    (request_is c.args.review.now (view c.args.document.now) (view c.in-Some.found.document.now) document (sym c.in-Some.ensures.document) ∙ sym c.in-None-of.ensures)

pub returns-in_ok-answer-in-Some-of : goal.returns-in_ok-answer-in-Some-of
returns-in_ok-answer-in-Some-of c language s is document =
    let answer = c.in_ok-answer-in-Some-of.ensures language s is in
    let uid = uid_is c.args.review.now (view c.args.document.now) c.in-Some.found.uid.now document c.in-Some.ensures.uid in
    subst (λ (t : List ℕ). DecidesInCluster language OneImage s c.args.review.now c.args.limits (Some t))
    (sym (answer.2 ∙ ap (λ (u : List ℕ). cluster_response (request_view c.in-Some-of.request) u answer.0) (sym uid)))
    (decided
    (request_is c.args.review.now (view c.args.document.now) (view c.in-Some.found.document.now) document (sym c.in-Some.ensures.document) ∙ sym c.in-Some-of.ensures)
    answer.1)
