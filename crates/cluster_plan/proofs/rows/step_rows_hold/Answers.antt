-- Proof obligations of `rows::step_rows_hold`.
use Rattle.cluster_plan.proofs.Prelude.{refl}
use Rattle.cluster_plan.proofs.OnLiterals.{steps_on_literals}
use Rattle.cluster_plan.proofs.rows.step_rows_hold.Goals as goal

pub returns : goal.returns
unfolding steps_on_literals
returns c = record {
  one_evaluation = refl;
  of_a_node = refl;
  namespace_not_found = refl;
  no_labels = refl;
  no_labels_under_ignore = refl;
  other_labels = refl;
  other_version = refl;
  other_version_exact = refl;
  is_blocked = refl;
  is_blocked_for_others = refl;
  params_of_a_node = refl;
  no_reference = refl;
  two_params = refl;
  absent_params = refl;
  absent_params_under_ignore = refl;
  no_params_and_no_namespace = refl;
  other_labels_of_binding = refl;
  no_labels_of_binding = refl;
  other_version_of_binding = refl;
  quotes_in_a_name = refl;
  no_name = refl;
  is_blocked_in_trouble = refl;
  is_blocked_if_it_matches = refl;
  is_blocked_before_its_bindings = refl;
  absent_params_and_no_namespace = refl;
  absent_params_and_no_namespace_under_ignore = refl;
  needless_namespace = refl;
  none_of_a_label = refl;
  no_kind = refl;
  of_a_namespace = refl;
  two_bindings = refl;
  error_before_others = refl;
}
