-- Proofs of `rows::label_rows_hold`: the result meets the contract.

use Rattle.admission_documents.proofs.Prelude.{refl}
use Rattle.admission_documents.proofs.OnLiterals.{documents_on_literals}
use Rattle.admission_documents.proofs.rows.label_rows_hold.Goals as goal

pub returns : goal.returns
unfolding documents_on_literals
returns c = record {
  label = refl;
  other = refl;
  no_metadata = refl;
  no_map_of_texts = refl;
}
