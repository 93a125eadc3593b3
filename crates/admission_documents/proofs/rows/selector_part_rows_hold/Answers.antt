-- Proofs of `rows::selector_part_rows_hold`: the result meets the contract.

use Rattle.admission_documents.proofs.Prelude.{refl}
use Rattle.admission_documents.proofs.OnLiterals.{documents_on_literals}
use Rattle.admission_documents.proofs.rows.selector_part_rows_hold.Goals as goal

pub returns : goal.returns
unfolding documents_on_literals
returns c = record {
  two_labels = refl;
  empty_value = refl;
  two_expressions = refl;
  both = refl;
  nothing_asked = refl;
  unknown_operator = refl;
  bad_key = refl;
  unknown_key_of_a_requirement = refl;
  no_key = refl;
  no_operator = refl;
  list_as_labels = refl;
  object_as_expressions = refl;
  text_as_values = refl;
  second_label = refl;
  second_expression = refl;
  unknown_key_beside_a_known_one = refl;
}
