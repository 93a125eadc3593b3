-- The definitions that examples on literal lists unfold.
use Rattle.std.specs.Prelude.{⊤}
use Rattle.admission_documents.proofs.OnLiterals.{documents_on_literals}
use Rattle.cluster_state.specs.Bindings.{absence_of, actions_of, are_actions, binding_in, binding_keys, binding_parts, choice_in, if_text, param_ref_keys, param_ref_of, param_ref_parts}
use Rattle.cluster_state.specs.Items.{group_in, has_other_version, is_list, is_of_cluster, is_policy_kind, item_parts, list_in}
use Rattle.cluster_state.specs.Params.{is_served, scope_of, serves_in, version_in}
use Rattle.cluster_state.specs.Policies.{is_bound, param_kind_keys, param_kind_of, param_kind_parts, policy_in, policy_parts}

unfoldable pub lists_on_literals : ⊤
unfolding documents_on_literals absence_of actions_of are_actions binding_in binding_keys binding_parts choice_in group_in has_other_version if_text is_bound is_list is_of_cluster is_policy_kind is_served item_parts list_in param_kind_keys param_kind_of param_kind_parts param_ref_keys param_ref_of param_ref_parts policy_in policy_parts scope_of serves_in version_in
lists_on_literals = tt
