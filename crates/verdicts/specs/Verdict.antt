-- What a policy decides on a request, given the values of its expressions (Kubernetes, ValidatingAdmissionPolicy:
-- match conditions, failure policy, validations).
use Rattle.std.specs.Prelude.{ℕ, Bool, true, false, List, [], map, Option, Some, None, if◌then◌else◌}
use Rattle.std.specs.List.{list_any, list_all}
use Rattle.value_store.specs.Value.{ValueOrError, value, boolean}
use Rattle.value_store.specs.Calls.{text_at}
use Rattle.verdicts.specs.declared.failure_policy.FailurePolicy.{FailurePolicy, TheVariants.Fail, TheVariants.Ignore}
use Rattle.verdicts.specs.declared.outcome.Outcome.{Outcome, TheVariants.Skipped, TheVariants.Rejected, TheVariants.Denied, TheVariants.Admitted}

-- ---- what is decided

-- the result of a condition or a validation
pub data CheckResult : Type 0 where
  Holds : CheckResult
  Fails : CheckResult
  Errs : CheckResult

-- the result of a validation, and for a denial the text of its message expression if it gave one
pub record Finding : Type 0 where
  pub truth : CheckResult
  pub message : Option (List ℕ)

-- the outcome, and the findings of the validations; none if the policy did not run
pub record Verdict : Type 0 where
  pub outcome : Outcome
  pub findings : List Finding

-- ---- how it is decided

-- an error, or a value that is not a bool, is an error
abbrev pub truth_of : ValueOrError → CheckResult
truth_of (value (boolean true)) = Holds
truth_of (value (boolean false)) = Fails
truth_of _ = Errs

-- a condition that is false
abbrev pub is_failed : CheckResult → Bool
is_failed Fails = true
is_failed _ = false

-- a condition that is true
abbrev pub is_held : CheckResult → Bool
is_held Holds = true
is_held _ = false

-- the outcome if no condition is false and one is an error
abbrev pub undecided : FailurePolicy → Outcome
undecided Fail = Rejected
undecided Ignore = Skipped

-- what the conditions decide; nothing if all are true, so that the policy runs
abbrev pub decided_before : FailurePolicy → List CheckResult → Option Outcome
decided_before f conditions =
    if list_any is_failed conditions then Some Skipped
    else (if list_all is_held conditions then None else Some (undecided f))

-- whether a validation denies
abbrev pub denies : FailurePolicy → CheckResult → Bool
denies f Holds = false
denies f Fails = true
denies Fail Errs = true
denies Ignore Errs = false

-- the finding for the value of a validation's expression and that of its message expression, if it has one
abbrev pub finding_of : FailurePolicy → ValueOrError × Option ValueOrError → Finding
finding_of f x = record {
  truth = truth_of x.0;
  message = if denies f (truth_of x.0) then text_at x.1 else None;
}

-- whether this finding denies
abbrev pub is_denial : FailurePolicy → Finding → Bool
is_denial f x = denies f x.truth

-- the verdict of a policy that runs: it denies if a validation denies
abbrev pub judged_by : FailurePolicy → List Finding → Verdict
judged_by f findings = record {
  outcome = if list_any (is_denial f) findings then Denied else Admitted;
  findings = findings;
}

-- what the conditions decide, else the verdict of the validations
abbrev pub decided : Option Outcome → Verdict → Verdict
decided (Some outcome) running = record { outcome = outcome; findings = [] }
decided None running = running

-- the verdict under a failure policy, given the values of the conditions and of the validations
unfoldable pub verdict_of : FailurePolicy → List ValueOrError → List (ValueOrError × Option ValueOrError) → Verdict
verdict_of f conditions validations =
    decided (decided_before f (map truth_of conditions)) (judged_by f (map (finding_of f) validations))
