-- Proofs of `rows::review_rows_stand`: the results meet the contract.

use Rattle.std.proofs.Common.{refl}
use Rattle.cluster_rows.proofs.rows.review_rows_stand.Goals as goal

pub returns-clause-outcomes : goal.returns-clause-outcomes
returns-clause-outcomes c = record {
  skipped = refl;
  admitted = refl;
  denied = refl;
  rejected = refl;
}

pub returns-clause-roots : goal.returns-clause-roots
returns-clause-roots c = record {
  object = refl;
  old_object = refl;
  params = refl;
  namespace = refl;
  request = refl;
  number_in_object = refl;
  number_in_params = refl;
  number_in_namespace = refl;
  number_in_request = refl;
  too_large_together = refl;
  no_memory = refl;
}

pub returns-clause-names : goal.returns-clause-names
returns-clause-names c = record {
  policy = refl;
  review = refl;
  namespace_or_params = refl;
  steps = refl;
  limit = refl;
  reads = refl;
  memory = refl;
}
