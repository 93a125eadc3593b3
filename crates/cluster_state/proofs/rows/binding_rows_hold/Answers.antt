-- Proofs of `rows::binding_rows_hold`: the result meets the contract.

use Rattle.cluster_state.proofs.Prelude.{refl}
use Rattle.cluster_state.proofs.OnLiterals.{lists_on_literals}
use Rattle.cluster_state.proofs.rows.binding_rows_hold.Goals as goal

pub returns : goal.returns
unfolding lists_on_literals
returns c = record {
  params = refl;
  no_params = refl;
  selector = refl;
  no_policy = refl;
  empty_policy = refl;
  no_actions = refl;
  doubled_action = refl;
  other_action = refl;
  unknown_key = refl;
  name_and_selector = refl;
  neither = refl;
  no_action_of_absence = refl;
  no_specification = refl;
  list_as_specification = refl;
  other_policy_of_matches = refl;
  actions_before_matches = refl;
  matches_before_params = refl;
  key_before_policy = refl;
  none = refl;
  specification = refl;
  policy_name = refl;
  actions = refl;
  resources = refl;
  param_ref = refl;
}
