-- Proofs of `rows::core_namespace_rows_hold`: the result meets the contract.

use Rattle.admission_documents.proofs.Prelude.{refl}
use Rattle.admission_documents.proofs.OnLiterals.{documents_on_literals}
use Rattle.admission_documents.proofs.rows.core_namespace_rows_hold.Goals as goal

pub returns : goal.returns
unfolding documents_on_literals
returns c = record {
  namespace = refl;
  other_group = refl;
  other_version = refl;
  other_kind = refl;
  plural = refl;
}
