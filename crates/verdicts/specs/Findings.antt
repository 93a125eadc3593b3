-- What a policy finds against a request, as an API server has it (Kubernetes, ValidatingAdmissionPolicy: `message`,
-- `messageExpression` and `reason` of validations). Texts are their bytes in UTF-8.
use Rattle.std.specs.Prelude.{ℕ, ◌+◌, ◌++◌, ◌&&◌, Bool, not, List, [], ◌∷◌, length, nat_eq, nat_le, Option, Some, None, codes, string_bytes, if◌then◌else◌}
use Rattle.std.specs.List.{list_any}
use Rattle.std.specs.Str.{trim}
use Rattle.verdicts.specs.Policy.{Policy, Validation}
use Rattle.verdicts.specs.Verdict.{CheckResult, Holds, Fails, Errs, Finding, Verdict}
use Rattle.verdicts.specs.declared.failure_policy.FailurePolicy.{FailurePolicy, TheVariants.Fail, TheVariants.Ignore}
use Rattle.verdicts.specs.declared.finding.Finding.{Finding as CodeFinding}
use Rattle.verdicts.specs.declared.outcome.Outcome.{Outcome, TheVariants.Skipped, TheVariants.Admitted, TheVariants.Rejected, TheVariants.Denied}
use Rattle.verdicts.specs.declared.reason.Reason.{Reason, TheVariants.Invalid}

-- what is found against a request: the place of the validation, the message and the reason
pub record PolicyFinding : Type 0 where
  pub index : ℕ
  pub message : List ℕ
  pub reason : Reason

-- the code's finding
abbrev pub finding_view : CodeFinding → PolicyFinding
finding_view x = record { index = x.index; message = string_bytes x.message; reason = x.reason }

-- ---- messages

-- the first of two texts, and the other where it is empty
abbrev pub text_or : List ℕ → List ℕ → List ℕ
text_or [] other = other
text_or (b ∷ text) other = b ∷ text

-- the most bytes that a message by a message expression may have
abbrev pub message_limit : ℕ
message_limit = 5120

-- whether the byte is a line feed
abbrev pub is_line_feed : ℕ → Bool
is_line_feed b = nat_eq b 10

-- whether the text has at most 5,120 bytes and no line feed
abbrev pub is_short_line : List ℕ → Bool
is_short_line text = nat_le (length text) message_limit && not (list_any is_line_feed text)

-- the text where it is such a line, and else the empty text
abbrev pub line_or_empty : List ℕ → List ℕ
line_or_empty text = if is_short_line text then text else []

-- the message by a message expression that gave this text, without white space around it; empty where it gave none
abbrev pub expression_message : Option (List ℕ) → List ℕ
expression_message (Some text) = line_or_empty (trim text)
expression_message None = []

-- that the expression of a validation failed
abbrev pub failed_message : Validation → List ℕ
failed_message r = codes "failed expression: " ++ trim r.expression

-- the message of a validation that is false, the first that is not empty: by its message expression, which gave this
-- text, if any; its `message`; that its expression failed
abbrev pub false_message : Validation → Option (List ℕ) → List ℕ
false_message r text = text_or (expression_message text) (text_or (trim r.message) (failed_message r))

-- the message of a validation that is an error, with its expression as it is written
abbrev pub error_message : Validation → List ℕ
error_message r = codes "expression '" ++ (r.expression ++ codes "' resulted in error")

-- ---- findings

-- a validation at this place is false, and its message expression gave this text, if any
abbrev pub false_finding : ℕ → Validation → Option (List ℕ) → PolicyFinding
false_finding i r text = record { index = i; message = false_message r text; reason = r.reason }

-- a validation at this place is an error, whose reason is not the validation's
abbrev pub error_finding : ℕ → Validation → PolicyFinding
error_finding i r = record { index = i; message = error_message r; reason = Invalid }

-- the match conditions are not decided
abbrev pub undecided_finding : PolicyFinding
undecided_finding = record { index = 0; message = codes "match conditions not decided"; reason = Invalid }

-- what is found by a validation at this place with this result, if it denies
abbrev pub finding_at : FailurePolicy → ℕ → Validation → CheckResult → Option (List ℕ) → Option PolicyFinding
finding_at f i r Holds text = None
finding_at f i r Fails text = Some (false_finding i r text)
finding_at Fail i r Errs text = Some (error_finding i r)
finding_at Ignore i r Errs text = None

-- a finding, if there is one, before others
abbrev pub before_others : Option PolicyFinding → List PolicyFinding → List PolicyFinding
before_others (Some x) xs = x ∷ xs
before_others None xs = xs

-- what is found by the validations from this place on, each beside its result, in their order
abbrev pub findings_from : FailurePolicy → ℕ → List Validation → List Finding → List PolicyFinding
findings_from f i [] xs = []
findings_from f i (r ∷ rs) [] = []
findings_from f i (r ∷ rs) (x ∷ xs) = before_others (finding_at f i r x.truth x.message) (findings_from f (i + 1) rs xs)

-- what is found under an outcome, where this is found by the validations
abbrev pub findings_by : Outcome → List PolicyFinding → List PolicyFinding
findings_by Rejected xs = undecided_finding ∷ []
findings_by Denied xs = xs
findings_by Skipped xs = []
findings_by Admitted xs = []

-- what a verdict of the policy finds against the request
abbrev pub findings_of : Policy → Verdict → List PolicyFinding
findings_of p verdict = findings_by verdict.outcome (findings_from p.failure_policy 0 p.validations verdict.findings)
