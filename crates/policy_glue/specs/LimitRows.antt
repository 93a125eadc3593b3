-- The largest numbers of parts, and the response for each reason, worked by hand.
use Rattle.std.specs.Prelude.{◌≡◌, ℕ, zero, suc, List, [], ◌∷◌, ◌++◌, None, Some, Ok, Err, codes, decimal}
use Rattle.serde_json.specs.Data as json
use Rattle.verdicts.specs.Policy.{NamedExpression, Policy, Validation}
use Rattle.verdicts.specs.Reading.{failure_in, judged, reason_in}
use Rattle.verdicts.specs.Response.{response_of}
use Rattle.policy_glue.specs.Rows.{denied_as, plain_validation, policy_with}
use Rattle.verdicts.specs.Verdict.{Fails}
use Rattle.verdicts.specs.declared.failure_policy.FailurePolicy.TheVariants.{Fail, Ignore}
use Rattle.verdicts.specs.declared.outcome.Outcome.TheVariants.{Denied}
use Rattle.verdicts.specs.declared.policy_error.PolicyError.TheVariants.{NoValidations, TooManyParts}
use Rattle.verdicts.specs.declared.reason.Reason.{Reason}
use Rattle.verdicts.specs.declared.reason.Reason.TheVariants.{Unauthorized, Forbidden, Invalid, RequestEntityTooLarge}

abbrev pub parts : ℕ → List NamedExpression
parts zero = []
parts (suc n) = record { name = codes "v" ++ decimal n; expression = codes "true" } ∷ parts n

abbrev pub rules : ℕ → List Validation
rules zero = []
rules (suc n) = plain_validation (codes "true") ∷ rules n

-- a policy with these numbers of conditions, variables and validations
abbrev pub sized : (conditions variables validations : ℕ) → Policy
sized conditions variables validations =
    record { failure_policy = Fail; conditions = parts conditions; variables = parts variables; validations = rules validations }

-- the response to a denial for this reason
abbrev pub denied_for : Reason → List ℕ
denied_for reason =
    response_of
    (policy_with Fail (record { expression = codes "false"; message = codes "m"; reason = reason; message_expression = None } ∷ []))
    (record { outcome = Denied; findings = record { truth = Fails; message = None } ∷ [] }) (codes "u1")

pub record LimitRowsStand : Type 0 where
  pub most_of_each : judged (sized 64 64 64) ≡ Ok (sized 64 64 64)
  pub too_many_conditions : judged (sized 65 0 1) ≡ Err TooManyParts
  pub too_many_variables : judged (sized 0 65 1) ≡ Err TooManyParts
  pub too_many_validations : judged (sized 0 0 65) ≡ Err TooManyParts
  -- an empty list of validations is reported before too many parts
  pub nothing_to_decide : judged (sized 0 65 0) ≡ Err NoValidations
  pub fail : failure_in (Some (json.string (codes "Fail"))) ≡ Some Fail
  pub ignore : failure_in (Some (json.string (codes "Ignore"))) ≡ Some Ignore
  pub small_letters : failure_in (Some (json.string (codes "fail"))) ≡ None
  pub unauthorized : reason_in (Some (json.string (codes "Unauthorized"))) ≡ Some Unauthorized
  pub too_large : reason_in (Some (json.string (codes "RequestEntityTooLarge"))) ≡ Some RequestEntityTooLarge
  pub other_reason : reason_in (Some (json.string (codes "NotFound"))) ≡ None
  pub code_401 : denied_for Unauthorized ≡ denied_as (codes "{\"code\":401,\"message\":\"m\",\"reason\":\"Unauthorized\"}")
  pub code_403 : denied_for Forbidden ≡ denied_as (codes "{\"code\":403,\"message\":\"m\",\"reason\":\"Forbidden\"}")
  pub code_422 : denied_for Invalid ≡ denied_as (codes "{\"code\":422,\"message\":\"m\",\"reason\":\"Invalid\"}")
  pub code_413 : denied_for RequestEntityTooLarge
      ≡ denied_as (codes "{\"code\":413,\"message\":\"m\",\"reason\":\"RequestEntityTooLarge\"}")
