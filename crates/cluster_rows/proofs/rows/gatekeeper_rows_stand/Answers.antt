-- Proofs of `rows::gatekeeper_rows_stand`: the results meet the contract.

use Rattle.std.proofs.Common.{refl}
use Rattle.admission_documents.proofs.OnLiterals.{documents_on_literals}
use Rattle.policy_glue.specs.Rejections.{response_text}
use Rattle.policy_glue.specs.Response.{review_tree}
use Rattle.value_store.specs.Documents.{document_of}
use Rattle.std.specs.Fmt.{digits}
use Rattle.gatekeeper_runner.specs.Cluster.Telling.{policy_front}
use Rattle.gatekeeper_runner.specs.Refusals.{refusal_text}
use Rattle.cluster_rows.proofs.rows.gatekeeper_rows_stand.Goals as goal

pub returns-clause-lines : goal.returns-clause-lines
unfolding documents_on_literals digits document_of review_tree response_text refusal_text
returns-clause-lines c = record {
  refused = refl;
  refused_without_uid = refl;
  refused_by_policy = refl;
  too_long = refl;
  uid = refl;
  number_as_uid = refl;
  answered_line = refl;
  refused_line = refl;
  decision_in_a_cluster = refl;
  no_review_in_a_cluster = refl;
  all_answered = refl;
  unread = refl;
  some_denied = refl;
  all_allowed = refl;
  some_denied_with_status = refl;
  unwritten = refl;
  unread_with_status = refl;
  unwritten_with_status = refl;
}

pub returns-clause-together : goal.returns-clause-together
unfolding documents_on_literals digits document_of review_tree response_text refusal_text
returns-clause-together c = record {
  none_and_one = refl;
  one_and_none = refl;
  two = refl;
  of_all = refl;
  of_none = refl;
  first_refusal = refl;
  no_refusal = refl;
  fail_after_ignore = refl;
  fail_before_ignore = refl;
  ignore_alone = refl;
  rejected = refl;
  refused = refl;
  allowed = refl;
}

pub returns-clause-refusals : goal.returns-clause-refusals
unfolding documents_on_literals digits document_of review_tree response_text refusal_text
returns-clause-refusals c = record {
  no_list = refl;
  no_item = refl;
  no_namespace = refl;
  no_memory = refl;
  line = refl;
  name = refl;
  refused = refl;
  names_namespace = refl;
  unknown_kind = refl;
  code_of_a_refused_policy = refl;
  code_of_a_name = refl;
  code_of_a_kind = refl;
  missing_file = refl;
  forbidden_file = refl;
  directory = refl;
  unread_file = refl;
  refused_file = refl;
  refused_wide_file = refl;
  no_memory_for_a_file = refl;
}

pub returns-clause-named : goal.returns-clause-named
unfolding documents_on_literals digits document_of review_tree response_text refusal_text
returns-clause-named c = record {
  duplicate = λ name. refl;
  binding = λ name. refl;
  binding_of_no_policy = λ name. refl;
  policy = λ name. refl;
  no_list = λ name. refl;
  no_kind = λ name. refl;
  named = λ name. refl;
  in_file = λ name fault. refl;
}

pub returns-clause-policies : goal.returns-clause-policies
unfolding documents_on_literals digits document_of review_tree response_text refusal_text policy_front
returns-clause-policies c = record {
  params = refl;
  no_params = refl;
  not_blocked = refl;
  blocked = refl;
  blocked_by_a_name = refl;
  blocked_by_its_kind = refl;
  line = refl;
  line_of_a_blocked_policy = refl;
}
