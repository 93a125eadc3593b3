-- Proof obligations of `base::Base::with_document`.
use Rattle.value_store.specs.Documents.{document_of}
use Rattle.value_store.specs.Value as kind
use Rattle.review_tables.specs.DocumentPool.{IsPooledAfter}
use Rattle.value_table.specs.Growing.{HasGrown}
use Rattle.cluster_gate.proofs.Places.{all_here, one_more, read_now}
use Rattle.cluster_gate.proofs.Prelude.{◌∙◌, ◌∷◌, ◌++◌, ℕ, List, [], ap, subst, sym, view}
use Rattle.cluster_gate.specs.Opened.{AreReadHere}
use Rattle.cluster_gate.specs.declared.read_document.ReadDocument.{ReadDocument}
use Rattle.cluster_gate.proofs.base.Base.with_document.Goals as goal

pub invariant_of-result : goal.invariant_of-result
invariant_of-result c =
    let pool = c.in-Ok.pool in
    let before = c.in_ok-before.before in
    let held = c.self.inside.documents.items in
    let last : ReadDocument = record { name = c.name_of-name.result; document = c.args.document; pooled = c.in-Ok.pooled } in
    let read = subst (λ (t : List ℕ). IsPooledAfter before pool c.in-Ok.pooled (document_of t)) c.as_slice.ensures.value c.in-Ok.ensures in
    let grown = subst (λ (us : List kind.Value). HasGrown us pool) c.in_ok-before.ensures read.grown in
    let items = c.in_ok-push-in-Ok.ensures.items ∙ ap (λ (ds : List ReadDocument). ds ++ last ∷ []) (c.in_ok-documents-in-Ok.ensures ∙ c.deref.ensures.value) in
    subst (AreReadHere pool) (sym items)
    (one_more pool held last (all_here c.self.inside.pool pool held grown c.self.invariant)
    (read_now before pool (view c.args.document.now) c.in_ok-text.text.items c.in-Ok.pooled c.in_ok-text.ensures read))
