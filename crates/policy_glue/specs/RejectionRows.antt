-- Rejections, the responses to them, and words of verdict regions, worked by hand.
use Rattle.std.specs.Prelude.{◌≡◌, ℕ, [], ◌∷◌, List, Some, None, Ok, codes}
use Rattle.value_store.specs.Value.{value, text}
use Rattle.verdicts.specs.Layout.{IsMessageWord, finding_word, first_message, first_result, message_in, outcome_of, outcome_word}
use Rattle.verdicts.specs.Words.{ok_or_zero, text_named}
use Rattle.verdicts.specs.Policy.{Policy}
use Rattle.verdicts.specs.Rejections.{rejection_of, response_text}
use Rattle.policy_glue.specs.Rows.{answered, denied_as, few_replicas, plain, policy_with, rejected, skipped, two_denials, two_findings}
use Rattle.verdicts.specs.Verdict.{Verdict, Holds, Fails, Errs}
use Rattle.verdicts.specs.declared.failure_policy.FailurePolicy.TheVariants.{Fail, Ignore}
use Rattle.verdicts.specs.declared.outcome.Outcome.TheVariants.{Skipped, Rejected, Denied, Admitted}
use Rattle.verdicts.specs.declared.reason.Reason.TheVariants.{Forbidden, Invalid}

-- the response to the request u1, by way of the policy's rejection
abbrev pub by_rejection : Policy → Verdict → List ℕ
by_rejection p verdict = response_text (rejection_of p verdict) (codes "u1")

-- a verdict that admits, with one validation
abbrev pub admitted : Verdict
admitted = record { outcome = Admitted; findings = record { truth = Holds; message = None } ∷ [] }

abbrev pub denied : Verdict
denied = record { outcome = Denied; findings = record { truth = Fails; message = None } ∷ [] }

pub record RejectionRowsStand : Type 0 where
  pub of_admitted : rejection_of (policy_with Fail (few_replicas ∷ [])) admitted ≡ None
  pub of_skipped : rejection_of (policy_with Fail (few_replicas ∷ [])) skipped ≡ None
  pub of_rejected : rejection_of (policy_with Fail (few_replicas ∷ [])) rejected
      ≡ Some (record { message = codes "match conditions not decided"; reason = Invalid })
  pub of_denied : rejection_of (policy_with Fail (few_replicas ∷ [])) denied
      ≡ Some (record { message = codes "failed expression: object.spec.replicas <= 3"; reason = Invalid })
  pub of_two : rejection_of (policy_with Fail two_denials) two_findings
      ≡ Some (record { message = codes "a; failed expression: 1/0 == 1"; reason = Forbidden })
  pub of_two_under_ignore : rejection_of (policy_with Ignore two_denials) two_findings
      ≡ Some (record { message = codes "a"; reason = Forbidden })
  pub admitted_text : by_rejection (policy_with Fail (few_replicas ∷ [])) admitted ≡ answered (codes "{\"allowed\":true,\"uid\":\"u1\"}")
  pub rejected_text : by_rejection (policy_with Fail (few_replicas ∷ [])) rejected
      ≡ denied_as (codes "{\"code\":422,\"message\":\"match conditions not decided\",\"reason\":\"Invalid\"}")
  pub denied_text : by_rejection (policy_with Fail (few_replicas ∷ [])) denied ≡ plain
  pub two_text : by_rejection (policy_with Fail two_denials) two_findings
      ≡ denied_as (codes "{\"code\":403,\"message\":\"a; failed expression: 1/0 == 1\",\"reason\":\"Forbidden\"}")

-- the words of a verdict region: outcomes from 1 to 4, results from word 2 on, and messages from word 66 on
pub record LayoutRowsStand : Type 0 where
  pub results_begin : first_result ≡ 2
  pub messages_begin : first_message ≡ 66
  pub skipped_word : outcome_word Skipped ≡ 1
  pub rejected_word : outcome_word Rejected ≡ 2
  pub denied_word : outcome_word Denied ≡ 3
  pub admitted_word : outcome_word Admitted ≡ 4
  pub one : outcome_of 1 ≡ Skipped
  pub two : outcome_of 2 ≡ Rejected
  pub three : outcome_of 3 ≡ Denied
  pub four : outcome_of 4 ≡ Admitted
  pub zero_rejects : outcome_of 0 ≡ Rejected
  pub five_rejects : outcome_of 5 ≡ Rejected
  pub holds_word : finding_word (Some (record { truth = Holds; message = None })) ≡ 0
  pub fails_word : finding_word (Some (record { truth = Fails; message = None })) ≡ 1
  pub errs_word : finding_word (Some (record { truth = Errs; message = None })) ≡ 2
  pub no_finding_word : finding_word None ≡ 0
  pub message : message_in (Some (record { truth = Fails; message = Some (codes "a") })) ≡ Some (codes "a")
  pub no_message : message_in (Some (record { truth = Fails; message = None })) ≡ None
  pub no_finding : message_in None ≡ None
  pub no_text : IsMessageWord [] 0 None
  pub word_for_no_text : IsMessageWord [] 1 None → ⊥
  pub word_of_a_text : IsMessageWord (value (text []) ∷ value (text (codes "a")) ∷ []) 1 (Some (codes "a"))
  pub word_of_another : IsMessageWord (value (text (codes "a")) ∷ value (text []) ∷ []) 1 (Some (codes "a")) → ⊥
  pub word_zero : IsMessageWord (value (text (codes "a")) ∷ []) 0 (Some (codes "a")) → ⊥
  pub no_reference : text_named (value (text (codes "a")) ∷ []) 0 ≡ None
  pub reference : text_named (value (text []) ∷ value (text (codes "a")) ∷ []) 1 ≡ Some (codes "a")
  pub word_read : ok_or_zero (Ok 7) ≡ 7
