-- Proofs of `chunks::close`: the result meets the contract.

use Rattle.value_table.proofs.Prelude.{◌≡◌, ◌∷◌, [], ◌++◌, ◌∙◌, ap, arith}
use Rattle.value_table.proofs.Chunked.{closed, chunks_closed}
use Rattle.value_table.proofs.chunks.close.Goals as goal

pub returns-clause-items : goal.returns-clause-items
returns-clause-items g c = grind (arith, closed)

pub returns-clause-chunks : goal.returns-clause-chunks
returns-clause-chunks g c = λ h.
    let old = c.args.full.now.value.items in
    let last = c.args.last.now.items in
    let new = c.add.new.full.value.items in
    let chunk : c.in_ok-chunk.chunk ≡ last = c.in_ok-chunk.ensures ∙ c.deref-2.ensures.value in
    let put = c.in_ok-add.ensures.ok ∙ ap (λ xs. old ++ xs ∷ []) chunk in
    chunks_closed old new last put c.requires.whole c.requires.few h
