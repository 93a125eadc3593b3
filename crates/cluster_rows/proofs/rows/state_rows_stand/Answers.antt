-- Proofs of `rows::state_rows_stand`: the results meet the contract.

use Rattle.std.proofs.Common.{refl}
use Rattle.cluster_state.proofs.OnLiterals.{lists_on_literals}
use Rattle.cluster_rows.proofs.rows.state_rows_stand.Goals as goal

pub returns-clause-lists : goal.returns-clause-lists
unfolding lists_on_literals
returns-clause-lists c = record {
  list_as_labels = refl;
  webhook_of_another_version = refl;
  list_of_pods = refl;
  list_of_another_version = refl;
  namespace_of_another_group = refl;
  one_name_in_two_groups = refl;
}

pub returns-clause-refusals : goal.returns-clause-refusals
unfolding lists_on_literals
returns-clause-refusals c = record {
  list = refl;
  list_as_item = λ e. cc;
  item = refl;
  item_as_list = λ e. cc;
  namespace = refl;
  list_as_namespace = λ e. cc;
  memory = tt;
}

pub returns-clause-named : goal.returns-clause-named
unfolding lists_on_literals
returns-clause-named c = record {
  duplicate = λ name. refl;
  binding = λ name. refl;
  other_part = λ name e. cc;
  policy = λ name. refl;
}

pub returns-clause-actions : goal.returns-clause-actions
unfolding lists_on_literals
returns-clause-actions c = record {
  audit_and_warn = refl;
  audit_and_deny = refl;
  deny_and_audit = refl;
  warn_and_deny = refl;
  audit_twice = refl;
  warn_twice = refl;
  second_twice = refl;
  all_three = refl;
  absence_allows = refl;
}

pub returns-clause-kinds : goal.returns-clause-kinds
unfolding lists_on_literals
returns-clause-kinds c = record {
  of_the_cluster = refl;
  of_no_scope = refl;
  of_another_kind = refl;
  without_served = refl;
  text_as_served = refl;
  second_version = refl;
  other_kind_of_the_group = refl;
  kind_of_another_group = refl;
  of_the_cluster_for_a_node = refl;
  no_memory = refl;
}
