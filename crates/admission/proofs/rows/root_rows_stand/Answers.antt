-- Proofs of `rows::root_rows_stand`: the result meets the contract.

use Rattle.admission.proofs.Prelude.{refl, document_of, contents_given, documents_given, parts_of}
use Rattle.std.specs.Char.{encode_utf8}
use Rattle.std.specs.Str.{chars, is_utf8}
use Rattle.serde_json.proofs.OnLiterals.{serde_json_on_literals}
use Rattle.admission.proofs.rows.root_rows_stand.Goals as goal

pub returns : goal.returns
unfolding serde_json_on_literals chars encode_utf8 is_utf8 contents_given documents_given document_of parts_of
returns c = record {
  a_review = refl;
  no_documents = refl;
  others = refl;
  fraction = refl;
  number_as_old_object = refl;
  fraction_in_request = refl;
  number_as_params = refl;
  text_as_namespace = refl;
  no_json = refl;
  no_uid = refl;
  no_request = refl;
  other_kind = refl;
  form_first = refl;
  params_first = refl;
  object_first = refl;
}
