-- Proofs of `matching::match_parts`: the result meets the contract.

use Rattle.admission_documents.proofs.Prelude.{◌∙◌, ap, sym, match_policy_of, rules_of, selector_of}
use Rattle.admission_documents.proofs.Parts.{match_whole}
use Rattle.admission_documents.proofs.matching.match_parts.Goals as goal

pub returns : goal.returns
returns c =
    match_whole _ _ _ _ _ _ (ap match_policy_of (sym c.field.ensures) ∙ sym c.match_policy.ensures ∙ c.in-Some.is)
    (ap selector_of (sym c.field-2.ensures) ∙ c.in_ok-namespace_selector.ensures)
    (ap selector_of (sym c.field-3.ensures) ∙ c.in_ok-object_selector.ensures)
    (ap rules_of (sym c.field-4.ensures) ∙ c.in_ok-resource_rules.ensures)
    (ap rules_of (sym c.field-5.ensures) ∙ c.in_ok-exclude_resource_rules.ensures)
