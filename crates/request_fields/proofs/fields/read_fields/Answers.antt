-- Proofs of `fields::read_fields`: the result meets the contract.

use Rattle.std.proofs.Common.{◌≡◌, ◌∙◌, None, ap, arith, option_map, sym}
use Rattle.serde_json.specs.Read.{read}
use Rattle.value_store.specs.Documents.{document_of}
use Rattle.review_tables.proofs.ReviewTables.{text_read, text_refused}
use Rattle.request_fields.specs.Fields.{kept}
use Rattle.request_fields.specs.declared.level.Level.TheVariants.{Review}
use Rattle.request_fields.proofs.fields.read_fields.Goals as goal

pub returns-in_default : goal.returns-in_default
returns-in_default c = ap (option_map (kept Review)) (text_refused c.args.review.now (grind arith))

pub returns-in-Ok-read_text : goal.returns-in-Ok-read_text
returns-in-Ok-read_text c =
    let is : read c.in-Ok.text.now ≡ document_of c.args.review.now = text_read c.args.review.now c.in-Ok.text.now (grind arith) (grind arith) in
    sym c.in-Ok-read_text.ensures.read ∙ ap (option_map (kept Review)) is

pub returns-in-Err-Invalid : goal.returns-in-Err-Invalid
returns-in-Err-Invalid c =
    let is : read c.in-Ok.text.now ≡ document_of c.args.review.now = text_read c.args.review.now c.in-Ok.text.now (grind arith) (grind arith) in
    let none : read c.in-Ok.text.now ≡ None = c.read_text.ensures.refused (grind arith) in
    ap (option_map (kept Review)) (sym none ∙ is)
