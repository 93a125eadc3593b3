-- Proofs of `rows::match_part_rows_hold`: the result meets the contract.

use Rattle.admission_documents.proofs.Prelude.{refl}
use Rattle.admission_documents.proofs.OnLiterals.{documents_on_literals}
use Rattle.admission_documents.proofs.rows.match_part_rows_hold.Goals as goal

pub returns : goal.returns
unfolding documents_on_literals
returns c = record {
  all_parts = refl;
  all_defaults = refl;
  nulls = refl;
  binding = refl;
  null_constraints = refl;
  null_rules = refl;
  list_as_constraints = refl;
  object_as_rules = refl;
  text_as_rule = refl;
  text_as_resources = refl;
  second_operation = refl;
  second_rule = refl;
  lower_case_scope = refl;
  number_as_scope = refl;
  number_as_match_policy = refl;
  exclude = refl;
  object_selector = refl;
  unknown_key_beside_a_known_one = refl;
  unknown_key_of_a_binding = refl;
}
