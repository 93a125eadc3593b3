-- Proofs of `rows::match_rows_hold`: the result meets the contract.

use Rattle.admission_documents.proofs.Prelude.{refl}
use Rattle.admission_documents.proofs.OnLiterals.{documents_on_literals}
use Rattle.admission_documents.proofs.rows.match_rows_hold.Goals as goal

pub returns : goal.returns
unfolding documents_on_literals
returns c = record {
  rule = refl;
  defaults = refl;
  scope_written = refl;
  exact = refl;
  excludes = refl;
  policy_without_constraints = refl;
  policy_without_rules = refl;
  policy_with_no_rule = refl;
  binding_without_resources = refl;
  binding_without_rules = refl;
  other_match_policy = refl;
  other_scope = refl;
  unknown_key = refl;
  unknown_key_of_a_rule = refl;
  number_as_resource = refl;
  bad_selector = refl;
}
