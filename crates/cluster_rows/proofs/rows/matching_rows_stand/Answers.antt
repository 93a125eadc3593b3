-- Proofs of `rows::matching_rows_stand`: the results meet the contract.

use Rattle.std.proofs.Common.{refl}
use Rattle.admission_match.specs.Matching.{match_answer}
use Rattle.admission_match.specs.Requests.{is_access_review, is_authentication_review, is_exempt, is_policy_resource}
use Rattle.admission_match.specs.Rules.{covers, fits, is_candidate, is_shared, may_fit}
use Rattle.cluster_rows.proofs.rows.matching_rows_stand.Goals as goal

pub returns-clause-rules : goal.returns-clause-rules
unfolding match_answer is_access_review is_authentication_review is_exempt is_policy_resource covers fits is_candidate is_shared may_fit
returns-clause-rules c = record {
  create_is_no_update = refl;
  update = refl;
  update_is_no_create = refl;
  update_is_no_delete = refl;
  beta_namespaces_are_namespaced = refl;
  namespaces_are_not_namespaced = refl;
}

pub returns-clause-shared : goal.returns-clause-shared
unfolding match_answer is_access_review is_authentication_review is_exempt is_policy_resource covers fits is_candidate is_shared may_fit
returns-clause-shared c = record {
  extensions_and_another = refl;
  another_and_apps = refl;
  pods_of_the_groups_of_events = refl;
  events_of_other_groups = refl;
  deployments_of_the_groups_of_ingresses = refl;
  ingresses_of_other_groups = refl;
  events_back = refl;
}

pub returns-clause-exact : goal.returns-clause-exact
unfolding match_answer is_access_review is_authentication_review is_exempt is_policy_resource covers fits is_candidate is_shared may_fit
returns-clause-exact c = record {
  one_of_two = refl;
  none = refl;
}

pub returns-clause-equivalent : goal.returns-clause-equivalent
unfolding match_answer is_access_review is_authentication_review is_exempt is_policy_resource covers fits is_candidate is_shared may_fit
returns-clause-equivalent c = record {
  namespaces_of_any_version = refl;
  beta_namespaces_of_any_version = refl;
  collection_of_any_version = refl;
  pods_of_any_version = refl;
  widgets_of_any_version = refl;
  no_other_version_is_of_the_cluster = refl;
  own_version_alone = refl;
  own_version_and_another = refl;
  own_version_in_another_scope = refl;
  no_versions = refl;
  other_operation = refl;
  other_resource = refl;
  one_of_two_may = refl;
  group_that_shares_another = refl;
  shared_without_a_namespace = refl;
  shared_of_the_cluster = refl;
  shared_without_versions = refl;
}

pub returns-clause-exempt : goal.returns-clause-exempt
unfolding match_answer is_access_review is_authentication_review is_exempt is_policy_resource covers fits is_candidate is_shared may_fit
returns-clause-exempt c = record {
  policies_of_another_group = refl;
  bindings_of_another_group = refl;
}

pub returns-clause-namespaces : goal.returns-clause-namespaces
unfolding match_answer is_access_review is_authentication_review is_exempt is_policy_resource covers fits is_candidate is_shared may_fit
returns-clause-namespaces c = record {
  before_rules_that_may_fit = refl;
  before_excludes_that_may_fit = refl;
}
