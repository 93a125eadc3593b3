-- Proofs of `rows::request_part_rows_hold`: the result meets the contract.

use Rattle.admission_documents.proofs.Prelude.{refl}
use Rattle.admission_documents.proofs.OnLiterals.{documents_on_literals}
use Rattle.admission_documents.proofs.rows.request_part_rows_hold.Goals as goal

pub returns : goal.returns
unfolding documents_on_literals
returns c = record {
  same_resource = refl;
  null_request_kind = refl;
  empty_request_subresource = refl;
  group_of_another_kind = refl;
  other_kind = refl;
  part_of_a_kind = refl;
  other_version = refl;
  other_resource = refl;
  part_of_a_resource = refl;
  number_as_request_subresource = refl;
  no_kind = refl;
  kind_without_its_name = refl;
  number_as_group = refl;
  resource_without_version = refl;
  resource_without_its_name = refl;
  number_as_subresource = refl;
  number_as_namespace = refl;
  no_operation = refl;
  lower_case_operation = refl;
  number_as_operation = refl;
  create = refl;
  create_without_a_field = refl;
  update_without_object = refl;
  list_as_object = refl;
}
