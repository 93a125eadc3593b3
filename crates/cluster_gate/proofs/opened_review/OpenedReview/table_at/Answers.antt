-- Proof obligations of `opened_review::OpenedReview::table_at`.
use Rattle.review_tables.specs.DocumentPool.{OpenValues}
use Rattle.cluster_gate.proofs.Places.{here_stays, place_found, shares_table}
use Rattle.cluster_gate.proofs.Prelude.{◌∙◌, ℕ, List, Some, ap, option_map, subst, sym, view}
use Rattle.cluster_gate.specs.Opened.{IsReadHere}
use Rattle.cluster_gate.specs.Tables.{SharesTable}
use Rattle.cluster_gate.proofs.opened_review.OpenedReview.table_at.Goals as goal

pub table-requires-clause-namespace : goal.table-requires-clause-namespace
table-requires-clause-namespace c =
    let same = c.in_ok-review.ensures ∙ c.self.view_is in
    let here = subst (λ (o : OpenValues). IsReadHere o.values c.requires.0 c.args.namespace) (sym same) c.requires.1 in
    (here_stays c.in_ok-review.review.values c.in_ok-review-2.review.values c.requires.0 c.args.namespace c.in_ok-review-2.ensures.grown here).pooled.sound

pub returns : goal.returns
returns c d is =
    let params = option_map (λ v. view v.now) c.args.params in
    let same = c.in_ok-review.ensures ∙ c.self.view_is in
    let here = subst (λ (o : OpenValues). IsReadHere o.values d c.args.namespace) (sym same) is in
    subst (λ (review : List ℕ). SharesTable review params (Some d) c.table.result) (ap (λ (o : OpenValues). o.review) same)
    (shares_table c.in_ok-review.review c.in_ok-review.review c.in_ok-review-2.review params (Some d) c.in_ok-review-2.params (Some c.args.namespace) c.table.result
    (place_found c.in_ok-review.review d c.args.namespace here) c.in_ok-review-2.ensures c.table.ensures)
