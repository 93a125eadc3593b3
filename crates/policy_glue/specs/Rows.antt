-- Policies, verdicts and responses worked by hand.
use Rattle.std.specs.Prelude.{◌≡◌, ℕ, pos, Bool, true, false, List, [], ◌∷◌, ◌++◌, Option, Some, None, Result, Ok, Err, codes}
use Rattle.value_store.specs.Value.{ValueOrError, error, value, boolean, int, text}
use Rattle.verdicts.specs.Policy.{Validation, Policy}
use Rattle.verdicts.specs.Reading.{policy_in}
use Rattle.verdicts.specs.Response.{response_of}
use Rattle.verdicts.specs.Verdict.{Verdict, Holds, Fails, Errs, verdict_of}
use Rattle.verdicts.specs.declared.outcome.Outcome.{TheVariants.Skipped, TheVariants.Rejected, TheVariants.Denied, TheVariants.Admitted}
use Rattle.verdicts.specs.declared.failure_policy.FailurePolicy.{FailurePolicy, TheVariants.Fail, TheVariants.Ignore}
use Rattle.verdicts.specs.declared.policy_error.PolicyError.{PolicyError, TheVariants.NotJson, TheVariants.NotAPolicy, TheVariants.InvalidField, TheVariants.NoValidations, TheVariants.MessageWithLineBreak}
use Rattle.verdicts.specs.declared.reason.Reason.TheVariants.{Forbidden, Invalid}

-- ---- documents

-- reads a policy with this specification
abbrev pub said : List ℕ → Result Policy PolicyError
said spec =
    policy_in (codes "{\"apiVersion\":\"admissionregistration.k8s.io/v1\",\"kind\":\"ValidatingAdmissionPolicy\",\"spec\":"
    ++ (spec ++ codes "}"))

abbrev pub plain_validation : List ℕ → Validation
plain_validation expression = record { expression = expression; message = []; reason = Invalid; message_expression = None }

abbrev pub policy_with : FailurePolicy → List Validation → Policy
policy_with f rules = record { failure_policy = f; conditions = []; variables = []; validations = rules }

abbrev pub few_replicas : Validation
few_replicas = plain_validation (codes "object.spec.replicas <= 3")

pub record PolicyRowsStand : Type 0 where
  pub one_validation : said (codes "{\"validations\":[{\"expression\":\"object.spec.replicas <= 3\"}]}")
      ≡ Ok (policy_with Fail (few_replicas ∷ []))
  pub all_keys : said
      (codes "{\"failurePolicy\":\"Ignore\",\"paramKind\":{},\"matchConditions\":[{\"name\":\"c\",\"expression\":\"a\"}],"
      ++ (codes "\"variables\":[{\"expression\":\"b\",\"name\":\"v\"}],\"matchConstraints\":{\"x\":1},"
      ++ codes "\"validations\":[{\"message\":\"m\",\"reason\":\"Forbidden\",\"messageExpression\":\"\",\"expression\":\"d\"}]}"))
      ≡ Ok (record {
        failure_policy = Ignore;
        conditions = record { name = codes "c"; expression = codes "a" } ∷ [];
        variables = record { name = codes "v"; expression = codes "b" } ∷ [];
        validations = record { expression = codes "d"; message = codes "m"; reason = Forbidden; message_expression = Some [] } ∷ [];
      })
  pub no_text : policy_in (codes "{") ≡ Err NotJson
  pub list : policy_in (codes "[]") ≡ Err NotAPolicy
  pub other_kind : policy_in (codes "{\"apiVersion\":\"admissionregistration.k8s.io/v1\",\"kind\":\"Policy\",\"spec\":1}") ≡ Err NotAPolicy
  pub unknown_key : said (codes "{\"validations\":[{\"expression\":\"a\"}],\"x\":1}") ≡ Err InvalidField
  pub null_message : said (codes "{\"validations\":[{\"expression\":\"a\",\"message\":null}]}") ≡ Err InvalidField
  pub no_reason : said (codes "{\"validations\":[{\"expression\":\"a\",\"reason\":\"\"}]}") ≡ Err InvalidField
  pub two_of_a_name :
      said (codes "{\"variables\":[{\"name\":\"v\",\"expression\":\"a\"},{\"name\":\"v\",\"expression\":\"b\"}],\"validations\":[{\"expression\":\"a\"}]}")
      ≡ Err InvalidField
  pub name_with_dash : said (codes "{\"variables\":[{\"name\":\"a-b\",\"expression\":\"a\"}],\"validations\":[]}") ≡ Err InvalidField
  pub name_from_digit : said (codes "{\"variables\":[{\"name\":\"1a\",\"expression\":\"a\"}],\"validations\":[]}") ≡ Err InvalidField
  pub empty_name : said (codes "{\"variables\":[{\"name\":\"\",\"expression\":\"a\"}],\"validations\":[]}") ≡ Err InvalidField
  pub reserved_name : said (codes "{\"variables\":[{\"name\":\"if\",\"expression\":\"a\"}],\"validations\":[]}") ≡ Err InvalidField
  pub no_validations : said (codes "{}") ≡ Err InvalidField
  pub empty_validations : said (codes "{\"validations\":[]}") ≡ Err NoValidations
  pub later_line_feed : said (codes "{\"validations\":[{\"expression\":\"a\"},{\"expression\":\"a\",\"message\":\"a\\nb\"}]}")
      ≡ Err MessageWithLineBreak
  pub line_feed : said (codes "{\"validations\":[{\"expression\":\"a\",\"message\":\"a\\nb\"}]}") ≡ Err MessageWithLineBreak

-- ---- verdicts

abbrev pub truth : Bool → ValueOrError
truth b = value (boolean b)

-- validations without message expressions
abbrev pub bare : ValueOrError → ValueOrError × Option ValueOrError
bare x = (x, None)

-- the verdict of a policy that did not run
abbrev pub skipped : Verdict
skipped = record { outcome = Skipped; findings = [] }

abbrev pub rejected : Verdict
rejected = record { outcome = Rejected; findings = [] }

pub record VerdictRowsStand : Type 0 where
  -- a false condition decides even if an earlier one is an error
  pub false_condition : verdict_of Fail (error ∷ truth false ∷ []) (bare (truth false) ∷ []) ≡ skipped
  pub undecided : verdict_of Fail (error ∷ truth true ∷ []) (bare (truth true) ∷ []) ≡ rejected
  pub undecided_ignored : verdict_of Ignore (error ∷ truth true ∷ []) (bare (truth false) ∷ []) ≡ skipped
  pub condition_of_another_kind : verdict_of Fail (value (int (pos 1)) ∷ []) (bare (truth true) ∷ []) ≡ rejected
  pub admitted : verdict_of Fail (truth true ∷ []) (bare (truth true) ∷ [])
      ≡ record { outcome = Admitted; findings = record { truth = Holds; message = None } ∷ [] }
  pub error_denies : verdict_of Fail [] (bare error ∷ [])
      ≡ record { outcome = Denied; findings = record { truth = Errs; message = None } ∷ [] }
  pub error_ignored : verdict_of Ignore [] (bare error ∷ [])
      ≡ record { outcome = Admitted; findings = record { truth = Errs; message = None } ∷ [] }
  pub false_denies : verdict_of Ignore [] (bare error ∷ bare (truth false) ∷ [])
      ≡ record { outcome = Denied; findings = record { truth = Errs; message = None } ∷ record { truth = Fails; message = None } ∷ [] }
  -- message expressions give texts for denials, and do not deny themselves
  pub text : verdict_of Fail [] ((truth false, Some (value (text (codes "a")))) ∷ [])
      ≡ record { outcome = Denied; findings = record { truth = Fails; message = Some (codes "a") } ∷ [] }
  pub no_text : verdict_of Fail [] ((truth false, Some (value (int (pos 1)))) ∷ [])
      ≡ record { outcome = Denied; findings = record { truth = Fails; message = None } ∷ [] }
  pub no_denial : verdict_of Fail [] ((truth true, Some error) ∷ [])
      ≡ record { outcome = Admitted; findings = record { truth = Holds; message = None } ∷ [] }

-- ---- responses

abbrev pub answered : List ℕ → List ℕ
answered response = codes "{\"apiVersion\":\"admission.k8s.io/v1\",\"kind\":\"AdmissionReview\",\"response\":" ++ (response ++ codes "}")

abbrev pub denied_as : List ℕ → List ℕ
denied_as status = answered (codes "{\"allowed\":false,\"status\":" ++ (status ++ codes ",\"uid\":\"u1\"}"))

-- the response for a policy with one false validation whose message expression gave this text
abbrev pub with_text : Option (List ℕ) → List ℕ
with_text message =
    response_of (policy_with Fail (few_replicas ∷ []))
    (record { outcome = Denied; findings = record { truth = Fails; message = message } ∷ [] }) (codes "u1")

abbrev pub plain : List ℕ
plain = denied_as (codes "{\"code\":422,\"message\":\"failed expression: object.spec.replicas <= 3\",\"reason\":\"Invalid\"}")

-- a false validation with a message and a reason, then one that is an error
abbrev pub two_denials : List Validation
two_denials =
    record { expression = codes "false"; message = codes "a"; reason = Forbidden; message_expression = None }
    ∷ plain_validation (codes "1/0 == 1") ∷ []

abbrev pub two_findings : Verdict
two_findings =
    record { outcome = Denied; findings = record { truth = Fails; message = None } ∷ record { truth = Errs; message = None } ∷ [] }

pub record ResponseRowsStand : Type 0 where
  pub admitted :
      response_of (policy_with Fail (few_replicas ∷ []))
      (record { outcome = Admitted; findings = record { truth = Holds; message = None } ∷ [] }) (codes "u1")
      ≡ answered (codes "{\"allowed\":true,\"uid\":\"u1\"}")
  pub was_skipped : response_of (policy_with Fail (few_replicas ∷ [])) skipped (codes "u1")
      ≡ answered (codes "{\"allowed\":true,\"uid\":\"u1\"}")
  pub was_rejected : response_of (policy_with Fail (few_replicas ∷ [])) rejected (codes "u1")
      ≡ denied_as (codes "{\"code\":422,\"message\":\"match conditions not decided\",\"reason\":\"Invalid\"}")
  pub denied : with_text None ≡ plain
  pub message : with_text (Some (codes "replicas 5 above 3"))
      ≡ denied_as (codes "{\"code\":422,\"message\":\"replicas 5 above 3\",\"reason\":\"Invalid\"}")
  pub spaces : with_text (Some (codes "  ")) ≡ plain
  pub empty : with_text (Some []) ≡ plain
  pub line_feed : with_text (Some (codes "a\nb")) ≡ plain
  pub under_fail : response_of (policy_with Fail two_denials) two_findings (codes "u1")
      ≡ denied_as (codes "{\"code\":403,\"message\":\"a; failed expression: 1/0 == 1\",\"reason\":\"Forbidden\"}")
  pub under_ignore : response_of (policy_with Ignore two_denials) two_findings (codes "u1")
      ≡ denied_as (codes "{\"code\":403,\"message\":\"a\",\"reason\":\"Forbidden\"}")
