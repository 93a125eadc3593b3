-- Proofs of `rows::update_row_holds`: the result meets the contract.

use Rattle.admission_documents.proofs.Prelude.{refl}
use Rattle.admission_documents.proofs.OnLiterals.{documents_on_literals}
use Rattle.admission_documents.proofs.rows.update_row_holds.Goals as goal

pub returns : goal.returns
unfolding documents_on_literals
returns c = record {
  kind = refl;
  resource = refl;
  subresource = refl;
  name = refl;
  namespace = refl;
  operation = refl;
  labels = refl;
  no_old_object = refl;
}
