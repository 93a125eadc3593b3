-- Proofs of `rows::response_rows_stand`: the results meet the contract.

use Rattle.std.proofs.Common.{refl}
use Rattle.cluster_response.proofs.OnLiterals.{answers_on_literals}
use Rattle.cluster_rows.proofs.rows.response_rows_stand.Goals as goal

pub returns : goal.returns
unfolding answers_on_literals
returns c = record {
  warning_after_denial = refl;
  refusal_after_denial = refl;
}
