-- Proof obligations of `opened_tables::with_place`.
use Rattle.cluster_gate.proofs.Places.{place_found}
use Rattle.cluster_gate.proofs.Prelude.{view}
use Rattle.cluster_gate.proofs.opened_tables.with_place.Goals as goal

pub returns-in-Some-found : goal.returns-in-Some-found
returns-in-Some-found c =
    rw c.in-Some.is (place_found c.args.review (view c.in-Some.document.now) c.in-Some-found.pooled (c.in-Some-found.ensures c.args.review.values c.requires))
