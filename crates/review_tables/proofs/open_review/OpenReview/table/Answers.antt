-- Proofs of `open_review::OpenReview::table`: the result meets the contract; its calls meet their requirements.

use Rattle.value_store.specs.Documents.{document_of}
use Rattle.review_tables.specs.DocumentPool.{IsSoundGiven, OpenValues}
use Rattle.review_tables.proofs.Pools.{roots_sound, roots_there}
use Rattle.value_table.proofs.Prelude.{subst, sym}
use Rattle.review_tables.proofs.ReviewTables.{placed_returns}
use Rattle.review_tables.proofs.open_review.OpenReview.table.Goals as goal

pub placed-requires-clause-sound : goal.placed-requires-clause-sound
placed-requires-clause-sound c =
    let inside = c.self.inside in
    roots_sound inside.heap inside.request inside.null c.args.namespace c.args.params (document_of inside.review.now) c.self.invariant.1 c.place_or-2.result c.place_or.result
    c.place_or-2.ensures c.place_or.ensures (subst (λ (o : OpenValues). IsSoundGiven o.values c.args.namespace) (sym c.self.view_is) c.requires.namespace)
    (subst (λ (o : OpenValues). IsSoundGiven o.values c.args.params) (sym c.self.view_is) c.requires.params)

pub returns : goal.returns
returns c =
    let inside = c.self.inside in
    rw (← c.self.view_is)
    (λ n p given also.
    placed_returns _ inside.heap _ _ _ _ c.placed.result
    (roots_there inside.heap inside.request inside.null c.args.namespace c.args.params (document_of inside.review.now) c.self.invariant.1 c.place_or-2.result c.place_or.result
    c.place_or-2.ensures c.place_or.ensures n p given also)
    c.placed.ensures)
