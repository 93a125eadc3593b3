-- Proofs of `member_text::text_at`: the result meets the contract.

use Rattle.value_table.proofs.Prelude.{◌≡◌, None, sym, ap, ◌∙◌, arith}
use Rattle.std.proofs.lemmas.Result.{IfOk-weaker}
use Rattle.serde_json.specs.Read.{read}
use Rattle.value_store.specs.Documents.{document_of}
use Rattle.review_tables.specs.MemberText.{text_at}
use Rattle.review_tables.proofs.ReviewTables.{text_read, text_refused}
use Rattle.review_tables.proofs.member_text.text_at.Goals as goal

pub returns-in_default : goal.returns-in_default
returns-in_default c = ap (text_at c.args.outer.now c.args.inner.now) (text_refused c.args.document.now (grind arith))

pub returns-in-Ok-text_in_document : goal.returns-in-Ok-text_in_document
returns-in-Ok-text_in_document c =
    let is : read c.in-Ok.text.now ≡ document_of c.args.document.now = text_read c.args.document.now c.in-Ok.text.now (grind arith) (grind arith) in
    IfOk-weaker c.copied.result _ _
    (λ t copied. copied ∙ c.in-Ok-text_in_document.ensures.found ∙ ap (text_at c.args.outer.now c.args.inner.now) is)
    c.copied.ensures

pub returns-in-Err-Invalid : goal.returns-in-Err-Invalid
returns-in-Err-Invalid c =
    let is : read c.in-Ok.text.now ≡ document_of c.args.document.now = text_read c.args.document.now c.in-Ok.text.now (grind arith) (grind arith) in
    let none : read c.in-Ok.text.now ≡ None = c.text_in_document.ensures.refused (grind arith) in
    ap (text_at c.args.outer.now c.args.inner.now) (sym none ∙ is)
