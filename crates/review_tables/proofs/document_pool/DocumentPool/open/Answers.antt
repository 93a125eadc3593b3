-- Proofs of `document_pool::DocumentPool::open`: its values keep their invariants.

use Rattle.value_store.specs.Documents.{document_of}
use Rattle.review_tables.proofs.Pools.{review_held}
use Rattle.review_tables.proofs.document_pool.DocumentPool.open.Goals as goal

pub invariant_of-result : goal.invariant_of-result
invariant_of-result c = (
  c.in_ok-null.ensures.heap,
  review_held c.reserve_for.new.self c.review_values.new.heap c.add_null.new.heap c.in_ok-request.request c.in_ok-null.null (document_of c.args.review.now) c.in_ok-request.ensures
      c.in_ok-null.ensures,
)
