-- Documents of policies worked by hand.
use Rattle.std.specs.Prelude.{◌≡◌, ℕ, List, [], ◌∷◌, ◌++◌, Option, Some, None, Result, Ok, Err, codes}
use Rattle.policy_glue.specs.Policy.{Policy}
use Rattle.policy_glue.specs.declared.failure_policy.FailurePolicy.{TheVariants.Fail}
use Rattle.policy_glue.specs.declared.policy_error.PolicyError.{TheVariants.InvalidField, TheVariants.NoValidations}
use Rattle.policy_glue.specs.declared.reason.Reason.TheVariants.{Invalid}
use Rattle.wide_policy.specs.WideDocuments.{wide_policy_in}
use Rattle.wide_policy.specs.declared.wide_policy_error.WidePolicyError.{WidePolicyError, TheVariants.Unread, TheVariants.HasAuditAnnotations}

-- reads a policy with this specification
abbrev pub said : List ℕ → Result Policy WidePolicyError
said spec =
    wide_policy_in (codes "{\"apiVersion\":\"admissionregistration.k8s.io/v1\",\"kind\":\"ValidatingAdmissionPolicy\",\"spec\":"
    ++ (spec ++ codes "}"))

-- reads a policy of one validation with this field
abbrev pub said_with : List ℕ → Result Policy WidePolicyError
said_with field = said (codes "{\"validations\":[{\"expression\":\"a\"," ++ (field ++ codes "}]}"))

-- a policy of one validation, with this message expression if there is one
abbrev pub one_validation : Option (List ℕ) → Policy
one_validation m = record {
  failure_policy = Fail;
  conditions = [];
  variables = [];
  validations = record { expression = codes "a"; message = []; reason = Invalid; message_expression = m } ∷ [];
}

-- empty lists and texts
pub record WideDocumentRowsHold : Type 0 where
  pub no_annotations : said (codes "{\"validations\":[{\"expression\":\"a\"}],\"auditAnnotations\":[]}") ≡ Ok (one_validation None)
  pub one_annotation : said (codes "{\"validations\":[{\"expression\":\"a\"}],\"auditAnnotations\":[{}]}") ≡ Err HasAuditAnnotations
  pub nothing : said (codes "{\"validations\":[],\"auditAnnotations\":[]}") ≡ Err (Unread NoValidations)
  pub empty_message_expression : said_with (codes "\"messageExpression\":\"\"") ≡ Ok (one_validation None)
  pub blank_message_expression : said_with (codes "\"messageExpression\":\" \"") ≡ Ok (one_validation (Some []))
  pub empty_reason : said_with (codes "\"reason\":\"\"") ≡ Err (Unread InvalidField)
