-- Proofs of `rows::request_read_rows_hold`: the result meets the contract.

use Rattle.admission_documents.proofs.Prelude.{refl}
use Rattle.admission_documents.proofs.OnLiterals.{documents_on_literals}
use Rattle.admission_documents.proofs.rows.request_read_rows_hold.Goals as goal

pub returns : goal.returns
unfolding documents_on_literals
returns c = record {
  kind = refl;
  resource = refl;
  no_subresource = refl;
  no_name = refl;
  no_namespace = refl;
  create = refl;
  delete = refl;
  connect = refl;
  last_of_a_key = refl;
  object = refl;
  no_object_of_delete = refl;
  old_object = refl;
  object_without_metadata = refl;
  null_metadata = refl;
  metadata_without_labels = refl;
  no_label = refl;
  labels_of_the_new_object = refl;
  labels_of_the_old_object = refl;
  old_object_without_metadata = refl;
}
