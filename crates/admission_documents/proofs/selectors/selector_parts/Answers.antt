-- Proofs of `selectors::selector_parts`: the result meets the contract.

use Rattle.admission_documents.proofs.Prelude.{◌∙◌, ap, sym, match_expressions_of, match_labels_of}
use Rattle.admission_documents.proofs.Parts.{selector_whole}
use Rattle.admission_documents.proofs.selectors.selector_parts.Goals as goal

pub returns : goal.returns
returns c =
    selector_whole _ _ _ (ap match_labels_of (sym c.field.ensures) ∙ c.in_ok-match_labels.ensures)
    (ap match_expressions_of (sym c.field-2.ensures) ∙ c.in_ok-match_expressions.ensures)
