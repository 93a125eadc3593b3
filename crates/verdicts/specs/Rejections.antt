-- The rejection of a request, and the response to it.
use Rattle.std.specs.Prelude.{ℕ, List, codes, map, Option, Some, None, string_bytes}
use Rattle.serde_json.specs.Data as json
use Rattle.serde_json.specs.Written.{compact_text}
use Rattle.verdicts.specs.Policy.{Policy}
use Rattle.verdicts.specs.Response.{Denial, allowed_tree, denial_text, denials_of, denied_tree, first_reason, joined, review_tree}
use Rattle.verdicts.specs.Verdict.{Verdict}
use Rattle.verdicts.specs.declared.outcome.Outcome.{Outcome, TheVariants.Skipped, TheVariants.Admitted, TheVariants.Rejected, TheVariants.Denied}
use Rattle.verdicts.specs.declared.rejection.Rejection.{Rejection as CodeRejection}
use Rattle.verdicts.specs.declared.reason.Reason.{Reason, TheVariants.Invalid}

-- why a request is rejected
pub record Rejection : Type 0 where
  pub message : List ℕ
  pub reason : Reason

abbrev pub rejection_view : CodeRejection → Rejection
rejection_view o = record { message = string_bytes o.message; reason = o.reason }

-- the rejection if the conditions could not be decided
abbrev pub undecided : Rejection
undecided = record { message = codes "match conditions not decided"; reason = Invalid }

-- the rejection for denials: their messages are joined, and the first one gives the reason
abbrev pub denied : List Denial → Rejection
denied ds = record { message = joined (map denial_text ds); reason = first_reason ds }

-- the rejection for an outcome; none if the outcome allows the request
abbrev pub rejection_by : Outcome → List Denial → Option Rejection
rejection_by Rejected ds = Some undecided
rejection_by Denied ds = Some (denied ds)
rejection_by Skipped ds = None
rejection_by Admitted ds = None

-- the rejection of a request by a verdict of the policy
abbrev pub rejection_of : Policy → Verdict → Option Rejection
rejection_of p verdict = rejection_by verdict.outcome (denials_of p.failure_policy p.validations verdict.findings)

-- the response allows the request if there is no rejection, else it denies it with the rejection's message and reason
abbrev pub rejection_tree : Option Rejection → List ℕ → json.Data
rejection_tree None uid = allowed_tree uid
rejection_tree (Some o) uid = denied_tree uid o.message o.reason

-- the text of the response to the request with this uid
unfoldable pub response_text : Option Rejection → List ℕ → List ℕ
response_text said uid = compact_text (review_tree (rejection_tree said uid))
