-- A policy (ValidatingAdmissionPolicy, admissionregistration.k8s.io/v1) as its document states it. Texts are bytes in
-- UTF-8.
use Rattle.std.specs.Prelude.{ℕ, List, map, Option, option_map, string_bytes, codes}
use Rattle.verdicts.specs.declared.failure_policy.FailurePolicy.{FailurePolicy}
use Rattle.verdicts.specs.declared.reason.Reason.{Reason}
use Rattle.verdicts.specs.declared.reason.Reason.TheVariants.{Unauthorized, Forbidden, Invalid, RequestEntityTooLarge}
use Rattle.verdicts.specs.declared.named_expression.NamedExpression.{NamedExpression as CodeNamedExpression}
use Rattle.verdicts.specs.declared.validation.Validation.{Validation as CodeValidation}
use Rattle.verdicts.specs.declared.parts.Parts.{Parts}

-- the largest number of conditions, of variables and of validations; a verdict has a word for each validation
abbrev pub part_limit : ℕ
part_limit = 64

-- a match condition or a variable
pub record NamedExpression : Type 0 where
  pub name : List ℕ
  pub expression : List ℕ

-- a validation; its message is empty if none is set
pub record Validation : Type 0 where
  pub expression : List ℕ
  pub message : List ℕ
  pub reason : Reason
  pub message_expression : Option (List ℕ)

-- the `spec` of a policy: match conditions, variables and validations in their order
pub record Policy : Type 0 where
  pub failure_policy : FailurePolicy
  pub conditions : List NamedExpression
  pub variables : List NamedExpression
  pub validations : List Validation

-- a condition or variable of the code
abbrev pub named_view : CodeNamedExpression → NamedExpression
named_view n = record { name = string_bytes n.name; expression = string_bytes n.expression }

-- a validation of the code
abbrev pub validation_view : CodeValidation → Validation
validation_view v = record {
  expression = string_bytes v.expression;
  message = string_bytes v.message;
  reason = v.reason;
  message_expression = option_map string_bytes v.message_expression;
}

-- a policy of the code
abbrev pub policy_view : Parts → Policy
policy_view p = record {
  failure_policy = p.failure_policy;
  conditions = map named_view p.conditions.items;
  variables = map named_view p.variables.items;
  validations = map validation_view p.validations.items;
}

-- the name of a reason (Kubernetes, Validation.reason)
abbrev pub reason_name : Reason → List ℕ
reason_name Unauthorized = codes "Unauthorized"
reason_name Forbidden = codes "Forbidden"
reason_name Invalid = codes "Invalid"
reason_name RequestEntityTooLarge = codes "RequestEntityTooLarge"

-- the HTTP status of a reason
abbrev pub reason_code : Reason → ℕ
reason_code Unauthorized = 401
reason_code Forbidden = 403
reason_code Invalid = 422
reason_code RequestEntityTooLarge = 413
