-- Proofs of `rows::field_rows_hold`: the result meets the contract.

use Rattle.std.proofs.Common.{refl}
use Rattle.std.specs.Char.{encode_utf8}
use Rattle.std.specs.Str.{chars, is_utf8}
use Rattle.serde_json.proofs.OnLiterals.{serde_json_on_literals}
use Rattle.value_store.specs.Documents.{document_of}
use Rattle.request_fields.specs.Fields.{below, below_request}
use Rattle.request_fields.proofs.rows.field_rows_hold.Goals as goal

pub returns : goal.returns
unfolding serde_json_on_literals chars encode_utf8 is_utf8 document_of below below_request
returns c = record {
  pod = refl;
  numbers = refl;
  repeated = refl;
  map_for_text = refl;
  not_json = refl;
}
