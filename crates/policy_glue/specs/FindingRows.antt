-- What is found against requests, worked by hand.
use Rattle.std.specs.Prelude.{◌≡◌, ℕ, ◌++◌, true, false, List, [], ◌∷◌, Some, None, codes, replicate}
use Rattle.std.specs.List.{concat}
use Rattle.verdicts.specs.Findings.{PolicyFinding, expression_message, findings_of, is_short_line}
use Rattle.verdicts.specs.Policy.{Validation}
use Rattle.policy_glue.specs.Rows.{plain_validation, policy_with, rejected, skipped}
use Rattle.verdicts.specs.Verdict.{CheckResult, Finding, Holds, Fails, Errs}
use Rattle.verdicts.specs.declared.failure_policy.FailurePolicy.{FailurePolicy, TheVariants.Fail, TheVariants.Ignore}
use Rattle.verdicts.specs.declared.outcome.Outcome.TheVariants.{Admitted, Denied, Skipped}
use Rattle.verdicts.specs.declared.reason.Reason.{Reason, TheVariants.Forbidden, TheVariants.Invalid}

-- the validation `a`, with a message that has a space at both ends, and a reason
abbrev pub with_message : Validation
with_message = record { expression = codes "a"; message = codes " no "; reason = Forbidden; message_expression = Some (codes "m") }

-- the same with a message of white space alone
abbrev pub blank : Validation
blank = record with_message { message = codes " \t" }

-- the result of a validation, without the text of a message expression
abbrev pub bare_result : CheckResult → Finding
bare_result t = record { truth = t; message = None }

-- what is found where the validation has this result
abbrev pub found_with : FailurePolicy → Validation → Finding → List PolicyFinding
found_with f r x = findings_of (policy_with f (r ∷ [])) (record { outcome = Denied; findings = x ∷ [] })

-- what is found where it is false and its message expression gives this text
abbrev pub found_by_text : List ℕ → List PolicyFinding
found_by_text text = found_with Fail with_message (record { truth = Fails; message = Some text })

-- one finding by the first validation
abbrev pub finding : List ℕ → Reason → List PolicyFinding
finding message reason = record { index = 0; message = message; reason = reason } ∷ []

-- three validations, of which the second is false and the third an error
abbrev pub found_by_three : FailurePolicy → List PolicyFinding
found_by_three f =
    findings_of (policy_with f (plain_validation (codes "a") ∷ plain_validation (codes "b") ∷ with_message ∷ []))
    (record { outcome = Denied; findings = bare_result Holds ∷ bare_result Fails ∷ bare_result Errs ∷ [] })

-- what is found, by the validation, its result and the failure policy
pub record FindingRowsStand : Type 0 where
  -- messages of validations that are false
  pub message : found_with Fail with_message (bare_result Fails) ≡ finding (codes "no") Forbidden
  pub message_under_ignore : found_with Ignore with_message (bare_result Fails) ≡ finding (codes "no") Forbidden
  pub no_message : found_with Fail (plain_validation (codes " a ")) (bare_result Fails) ≡ finding (codes "failed expression: a") Invalid
  pub text : found_by_text (codes " 5 above 3 ") ≡ finding (codes "5 above 3") Forbidden
  pub text_in_wide_space : found_by_text (227 ∷ 128 ∷ 128 ∷ codes "5 above 3\n") ≡ finding (codes "5 above 3") Forbidden
  pub spaces : found_by_text (codes "   ") ≡ finding (codes "no") Forbidden
  pub empty : found_by_text [] ≡ finding (codes "no") Forbidden
  pub line_feed : found_by_text (codes "a\nb") ≡ finding (codes "no") Forbidden
  pub carriage_return : found_by_text (97 ∷ 13 ∷ 98 ∷ []) ≡ finding (97 ∷ 13 ∷ 98 ∷ []) Forbidden
  pub longest : is_short_line (replicate 5120 97) ≡ true
  pub too_long : is_short_line (replicate 5121 97) ≡ false
  pub too_long_in_bytes : is_short_line (concat (replicate 2561 (195 ∷ 164 ∷ []))) ≡ false
  pub blank_message : found_with Fail blank (bare_result Fails) ≡ finding (codes "failed expression: a") Forbidden
  pub white_space : expression_message (Some (194 ∷ 160 ∷ 194 ∷ 133 ∷ codes "a b" ++ 226 ∷ 128 ∷ 168 ∷ [])) ≡ codes "a b"
  pub no_white_space : expression_message (Some (226 ∷ 128 ∷ 139 ∷ [])) ≡ 226 ∷ 128 ∷ 139 ∷ []
  -- errors
  pub error : found_with Fail with_message (bare_result Errs) ≡ finding (codes "expression 'a' resulted in error") Invalid
  pub error_as_written : found_with Fail (plain_validation (codes " 1/0 == 1")) (bare_result Errs)
      ≡ finding (codes "expression ' 1/0 == 1' resulted in error") Invalid
  pub error_with_text : found_with Fail with_message (record { truth = Errs; message = Some (codes "t") })
      ≡ finding (codes "expression 'a' resulted in error") Invalid
  pub error_ignored : found_with Ignore with_message (bare_result Errs) ≡ []
  -- several validations
  pub two_of_three : found_by_three Fail
      ≡ record { index = 1; message = codes "failed expression: b"; reason = Invalid }
      ∷ record { index = 2; message = codes "expression 'a' resulted in error"; reason = Invalid } ∷ []
  pub one_of_three : found_by_three Ignore ≡ record { index = 1; message = codes "failed expression: b"; reason = Invalid } ∷ []
  -- other outcomes
  pub was_rejected : findings_of (policy_with Fail (with_message ∷ [])) rejected ≡ finding (codes "match conditions not decided") Invalid
  pub was_skipped : findings_of (policy_with Fail (with_message ∷ [])) skipped ≡ []
  pub was_skipped_after_results :
      findings_of (policy_with Fail (with_message ∷ [])) (record { outcome = Skipped; findings = bare_result Fails ∷ [] }) ≡ []
  pub admitted : findings_of (policy_with Fail (with_message ∷ [])) (record { outcome = Admitted; findings = bare_result Holds ∷ [] }) ≡ []
