-- Proofs of `rows::state_rows_hold`: the result meets the contract.

use Rattle.cluster_state.proofs.Prelude.{refl}
use Rattle.cluster_state.proofs.OnLiterals.{lists_on_literals}
use Rattle.cluster_state.proofs.rows.state_rows_hold.Goals as goal

pub returns : goal.returns
unfolding lists_on_literals
returns c = record {
  bound = refl;
  several_lists = refl;
  unbound_policy_is_not_read = refl;
  binding_of_no_policy = refl;
  no_list = refl;
  no_items = refl;
  no_name = refl;
  number_as_label = refl;
  other_version = refl;
  policy_in_a_namespace = refl;
  binding_in_a_namespace = refl;
  definition_in_a_namespace = refl;
  namespace_in_a_namespace = refl;
  other_in_a_namespace = refl;
  policy_of_another_group = refl;
  twice = refl;
  lists_before_items = refl;
  second_of_two_lists = refl;
  first_of_two_lists = refl;
  none = refl;
  namespaces_before_bindings = refl;
  deny_with_warn = refl;
  bindings_before_policies = refl;
  no_rules = refl;
}
