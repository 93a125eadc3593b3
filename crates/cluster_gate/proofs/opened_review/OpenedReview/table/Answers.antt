-- Proof obligations of `opened_review::OpenedReview::table`.
use Rattle.review_tables.specs.DocumentPool.{OpenValues}
use Rattle.cluster_gate.proofs.Places.{all_here, if_stays, shares_table, sound_here}
use Rattle.cluster_gate.proofs.Prelude.{◌∙◌, ℕ, List, ap, option_map, subst, sym, view}
use Rattle.cluster_gate.specs.Opened.{AreReadHere}
use Rattle.cluster_gate.specs.Tables.{SharesTable}
use Rattle.cluster_gate.proofs.opened_review.OpenedReview.table.Goals as goal

pub with_place-requires-2 : goal.with_place-requires-2
with_place-requires-2 c =
    let documents = c.self.inside.documents.items in
    let here = subst (λ (o : OpenValues). AreReadHere o.values documents) (sym c.in_ok-review.ensures) c.self.invariant in
    subst (AreReadHere c.in_ok-review-2.review.values) (sym c.deref-2.ensures.value)
    (all_here c.in_ok-review.review.values c.in_ok-review-2.review.values documents c.in_ok-review-2.ensures.grown here)

pub table-requires-clause-namespace : goal.table-requires-clause-namespace
table-requires-clause-namespace c =
    let namespace = option_map (λ v. view v.now) c.args.namespace in
    sound_here c.in_ok-review-3.review.values namespace c.in_ok-review-2.namespace
    (if_stays c.in_ok-review-2.review.values c.in_ok-review-3.review.values namespace c.in_ok-review-2.namespace c.in_ok-review-3.ensures.grown c.in_ok-review-2.ensures.here)

pub returns : goal.returns
returns c =
    let namespace = option_map (λ v. view v.now) c.args.namespace in
    let params = option_map (λ v. view v.now) c.args.params in
    subst (λ (review : List ℕ). SharesTable review params namespace c.table.result) (ap (λ (o : OpenValues). o.review) (c.in_ok-review.ensures ∙ c.self.view_is))
    (shares_table c.in_ok-review.review c.in_ok-review-2.review c.in_ok-review-3.review params namespace c.in_ok-review-3.params c.in_ok-review-2.namespace c.table.result
    c.in_ok-review-2.ensures c.in_ok-review-3.ensures c.table.ensures)
