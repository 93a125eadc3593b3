-- Proofs of `rows::label_part_rows_hold`: the result meets the contract.

use Rattle.admission_documents.proofs.Prelude.{refl}
use Rattle.admission_documents.proofs.OnLiterals.{documents_on_literals}
use Rattle.admission_documents.proofs.rows.label_part_rows_hold.Goals as goal

pub returns : goal.returns
unfolding documents_on_literals
returns c = record {
  second = refl;
  empty_value = refl;
  no_labels = refl;
  null_labels = refl;
  null_metadata = refl;
  list_as_labels = refl;
}
