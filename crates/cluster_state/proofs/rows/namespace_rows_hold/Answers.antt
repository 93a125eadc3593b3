-- Proofs of `rows::namespace_rows_hold`: the result meets the contract.

use Rattle.cluster_state.proofs.Prelude.{refl}
use Rattle.cluster_state.proofs.OnLiterals.{lists_on_literals}
use Rattle.cluster_state.proofs.rows.namespace_rows_hold.Goals as goal

pub returns : goal.returns
unfolding lists_on_literals
returns c = record {
  of_a_pod = refl;
  of_a_node = refl;
  of_a_namespace = refl;
  that_is_gone = refl;
}
