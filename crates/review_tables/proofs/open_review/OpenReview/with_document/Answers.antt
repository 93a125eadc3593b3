-- Proofs of `open_review::OpenReview::with_document`: its values keep their invariants.

use Rattle.value_store.specs.Documents.{document_of}
use Rattle.review_tables.proofs.Pools.{review_stays}
use Rattle.value_table.proofs.Prelude.{heap_values}
use Rattle.review_tables.proofs.open_review.OpenReview.with_document.Goals as goal

pub invariant_of-opened : goal.invariant_of-opened
invariant_of-opened c =
    let read = c.in_ok-placed.ensures.puts in (
      read.heap,
      review_stays (heap_values c.self.inside.heap) (heap_values c.document_value.new.heap) c.self.inside.request c.self.inside.null (document_of c.self.inside.review.now) read.grown
          c.self.invariant.1,
    )
