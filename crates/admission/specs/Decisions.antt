-- The decision of a policy on a review.
use Rattle.std.specs.Prelude.{◌≡◌, ℕ, List, option_map, Option, Result, Ok, Err, string_bytes}
use Rattle.policy_glue.specs.Rejections.{Rejection, rejection_of, rejection_view}
use Rattle.policy_glue.specs.Policy.{Policy}
use Rattle.policy_glue.specs.Verdict.{Verdict}
use Rattle.policy_glue.specs.declared.rejection.Rejection.{Rejection as CodeRejection}
use Rattle.admission.specs.Deciding.{Case, Documents, HasNoResponse, decision}
use Rattle.admission.specs.Reviews.{uid_in}
use Rattle.admission.specs.declared.run_error.RunError.{RunError}
use Rattle.admission.specs.declared.limits.Limits.{Limits}
use Rattle.admission.specs.declared.decision.Decision.{Decision as CodeDecision}

-- the rejection by a policy, if it rejects, and the uid of the request
pub record Decision : Type 0 where
  pub rejection : Option Rejection
  pub uid : List ℕ

-- the code's decision
abbrev pub decision_value : CodeDecision → Decision
decision_value x = record { rejection = option_map rejection_view x.rejection; uid = string_bytes x.uid }

-- the code's result without a uid, as the decision on a request with this uid
abbrev pub said_view : List ℕ → Result (Option CodeRejection) RunError → Result Decision RunError
said_view uid (Ok said) = Ok (record { rejection = option_map rejection_view said; uid = uid })
said_view uid (Err e) = Err e

-- the decision for a verdict on the request with this uid
abbrev pub decision_from_verdict : Policy → Verdict → List ℕ → Decision
decision_from_verdict p v uid = record { rejection = rejection_of p v; uid = uid }

-- the decision is the one for the policy's verdict
pub record IsDecisionOf (d : Documents) (said : Decision) : Type 0 where
  pub case : Case d
  pub decision_is : said ≡ decision_from_verdict case.policy.told (decision case) (uid_in d.review)

-- the policy's decision on a review, or an error that the review may have
abbrev pub DecidesReview : Documents → Limits → Result Decision RunError → Type 0
DecidesReview d limits (Ok said) = IsDecisionOf d said
DecidesReview d limits (Err e) = HasNoResponse d limits e
