-- Proof obligations of `rows::answer_rows_hold`.
use Rattle.cluster_response.proofs.Prelude.{refl}
use Rattle.cluster_response.proofs.OnLiterals.{answers_on_literals}
use Rattle.cluster_response.proofs.rows.answer_rows_hold.Goals as goal

pub returns : goal.returns
unfolding answers_on_literals
returns c = record {
  no_events = refl;
  warned_and_audited = refl;
  denied = refl;
  two_denials = refl;
  two_warned_and_audited = refl;
  same_message_twice = refl;
  message_told_again = refl;
  no_namespace = refl;
  no_namespace_after_denial = refl;
  no_namespace_after_warning = refl;
  policy_not_configured = refl;
  binding_not_configured = refl;
  undecided = refl;
  denied_after_refusal = refl;
  no_namespace_after_refusal = refl;
  denied_and_audited = refl;
  denied_with_warning = refl;
  escaped = refl;
  fail_after_ignore = refl;
  fail_before_ignore = refl;
  fail_between = refl;
  ignore_alone = refl;
  denied_between = refl;
  reads_under_fail = refl;
  reads_under_ignore = refl;
  after_warning = refl;
  of_review = refl;
  of_params = refl;
  of_match = refl;
  of_policy = refl;
  of_kind = refl;
}
