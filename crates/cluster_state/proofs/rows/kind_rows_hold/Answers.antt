-- Proofs of `rows::kind_rows_hold`: the result meets the contract.

use Rattle.cluster_state.proofs.Prelude.{refl}
use Rattle.cluster_state.proofs.OnLiterals.{lists_on_literals}
use Rattle.cluster_state.proofs.rows.kind_rows_hold.Goals as goal

pub returns : goal.returns
unfolding lists_on_literals
returns c = record {
  by_objects = refl;
  by_objects_of_the_cluster = refl;
  of_another_kind = refl;
  of_another_version = refl;
  by_definition = refl;
  definition_first = refl;
  version_that_is_not_served = refl;
  without_version = refl;
  other_group = refl;
  not_listed = refl;
  known = refl;
  in_a_namespace_by_definition = refl;
  in_a_namespace_of_the_cluster = refl;
  in_another_version = refl;
}
