-- Proofs of `rows::request_rows_hold`: the result meets the contract.

use Rattle.admission_documents.proofs.Prelude.{refl}
use Rattle.admission_documents.proofs.OnLiterals.{documents_on_literals}
use Rattle.admission_documents.proofs.rows.request_rows_hold.Goals as goal

pub returns : goal.returns
unfolding documents_on_literals
returns c = record {
  delete = refl;
  same_kind = refl;
  converted_kind = refl;
  converted_resource = refl;
  other_subresource = refl;
  no_version = refl;
  no_resource = refl;
  other_operation = refl;
  create_without_object = refl;
  connect_without_object = refl;
  number_as_name = refl;
  text_as_old_object = refl;
}
