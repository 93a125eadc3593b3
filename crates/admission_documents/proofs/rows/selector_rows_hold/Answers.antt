-- Proofs of `rows::selector_rows_hold`: the result meets the contract.

use Rattle.admission_documents.proofs.Prelude.{refl}
use Rattle.admission_documents.proofs.OnLiterals.{documents_on_literals}
use Rattle.admission_documents.proofs.rows.selector_rows_hold.Goals as goal

pub returns : goal.returns
unfolding documents_on_literals
returns c = record {
  labels = refl;
  values = refl;
  no_values = refl;
  absent = refl;
  empty = refl;
  empty_lists = refl;
  null_is_absent = refl;
  null_labels = refl;
  unknown_key = refl;
  list = refl;
  number_as_value = refl;
  value_with_blank = refl;
  lower_case_operator = refl;
  in_without_values = refl;
  exists_with_values = refl;
}
