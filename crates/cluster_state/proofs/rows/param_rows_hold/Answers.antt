-- Proofs of `rows::param_rows_hold`: the result meets the contract.

use Rattle.cluster_state.proofs.Prelude.{refl}
use Rattle.cluster_state.proofs.OnLiterals.{lists_on_literals}
use Rattle.cluster_state.proofs.rows.param_rows_hold.Goals as goal

pub returns : goal.returns
unfolding lists_on_literals
returns c = record {
  by_name = refl;
  in_the_order_of_names = refl;
  of_another_namespace = refl;
  of_the_named_namespace = refl;
  absence_allows = refl;
  node = refl;
  node_by_namespace = refl;
  of_the_cluster = refl;
  needless_namespace = refl;
}
