-- Proofs of `rules::rule_parts`: the result meets the contract.

use Rattle.admission_documents.proofs.Prelude.{◌∙◌, ap, sym, texts_of}
use Rattle.admission_documents.proofs.Parts.{rule_whole}
use Rattle.admission_documents.proofs.rules.rule_parts.Goals as goal

pub returns : goal.returns
returns c =
    rule_whole _ _ _ _ c.in_ok-patterns.ensures (ap texts_of (sym c.field.ensures) ∙ c.in_ok-operations.ensures)
    (ap texts_of (sym c.field-2.ensures) ∙ c.in_ok-resource_names.ensures)
