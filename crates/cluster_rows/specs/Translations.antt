-- The policy that `gatekeeper --translate` writes, as the page on the gatekeeper has it.
use Rattle.std.specs.Prelude.{◌≡◌, [], ◌∷◌, ◌++◌, Some, None, Ok, codes}
use Rattle.policy_glue.specs.Policy.{Policy}
use Rattle.policy_glue.specs.Reading.{policy_in}
use Rattle.policy_glue.specs.declared.failure_policy.FailurePolicy.TheVariants.{Fail, Ignore}
use Rattle.policy_glue.specs.declared.reason.Reason.TheVariants.{Forbidden, Invalid}
use Rattle.policy_translation.specs.TranslationText.{translation_text}

-- a policy with each kind of part, as its author wrote it
abbrev pub written_policy : Policy
written_policy = record {
  failure_policy = Ignore;
  conditions = record { name = codes "c"; expression = codes "C0" } ∷ [];
  variables = record { name = codes "v"; expression = codes "V0" } ∷ record { name = codes "w"; expression = codes "V1" } ∷ [];
  validations = record { expression = codes "E0"; message = []; reason = Invalid; message_expression = Some (codes "M0") }
      ∷ record { expression = codes "E1"; message = codes "a \"b\""; reason = Forbidden; message_expression = Some (codes "M1") } ∷ [];
}

-- its translation, as one may be
abbrev pub translated_policy : Policy
translated_policy = record {
  failure_policy = Ignore;
  conditions = record { name = codes "c"; expression = codes "c0" } ∷ [];
  variables = record { name = codes "v"; expression = codes "v0" } ∷ record { name = codes "w"; expression = codes "v1" } ∷ [];
  validations = record { expression = codes "e0"; message = []; reason = Invalid; message_expression = Some (codes "m0") }
      ∷ record { expression = codes "e1"; message = codes "a \"b\""; reason = Forbidden; message_expression = Some (codes "m1") } ∷ [];
}

-- a policy with one expression
abbrev pub least_policy : Policy
least_policy = record {
  failure_policy = Fail;
  conditions = [];
  variables = [];
  validations = record { expression = codes "true"; message = []; reason = Invalid; message_expression = None } ∷ [];
}

pub record WrittenTranslationsHold : Type 0 where
  pub all : translation_text written_policy translated_policy
      ≡ codes "{\"apiVersion\":\"admissionregistration.k8s.io/v1\",\"kind\":\"ValidatingAdmissionPolicy\",\"metadata\":{\"annotations\":"
      ++ (codes "{\"variable.0\":\"V0\",\"variable.1\":\"V1\",\"condition.0\":\"C0\",\"validation.0\":\"E0\",\"message.0\":\"M0\","
      ++ (codes "\"validation.1\":\"E1\",\"message.1\":\"M1\"}},\"spec\":{\"failurePolicy\":\"Ignore\",\"variables\":"
      ++ (codes "[{\"name\":\"v\",\"expression\":\"v0\"},{\"name\":\"w\",\"expression\":\"v1\"}],\"matchConditions\":"
      ++ (codes "[{\"name\":\"c\",\"expression\":\"c0\"}],\"validations\":"
      ++ (codes "[{\"expression\":\"e0\",\"messageExpression\":\"m0\",\"reason\":\"Invalid\"},"
      ++ codes "{\"expression\":\"e1\",\"message\":\"a \\\"b\\\"\",\"messageExpression\":\"m1\",\"reason\":\"Forbidden\"}]}}\n")))))
  pub least : translation_text least_policy least_policy
      ≡ codes "{\"apiVersion\":\"admissionregistration.k8s.io/v1\",\"kind\":\"ValidatingAdmissionPolicy\",\"metadata\":{\"annotations\":"
      ++ (codes "{\"validation.0\":\"true\"}},\"spec\":{\"failurePolicy\":\"Fail\",\"validations\":"
      ++ codes "[{\"expression\":\"true\",\"reason\":\"Invalid\"}]}}\n")
  -- read as celbpf reads it, it is the translation
  pub all_read : policy_in (translation_text written_policy translated_policy) ≡ Ok translated_policy
  pub least_read : policy_in (translation_text least_policy least_policy) ≡ Ok least_policy
