-- What a policy finds against a review.
use Rattle.std.specs.Prelude.{◌≡◌, List, map, Result, Ok, Err, Vec}
use Rattle.std.specs.Global.{Global}
use Rattle.policy_glue.specs.Findings.{PolicyFinding, finding_view, findings_of}
use Rattle.policy_glue.specs.declared.finding.Finding.{Finding as CodeFinding}
use Rattle.admission.specs.Deciding.{Case, Documents, HasNoResponse, decision}
use Rattle.admission.specs.declared.limits.Limits.{Limits}
use Rattle.admission.specs.declared.run_error.RunError.{RunError}

-- the findings that the code returns
abbrev pub findings_view : Result (Vec CodeFinding Global) RunError → Result (List PolicyFinding) RunError
findings_view (Ok found) = Ok (map finding_view found.items)
findings_view (Err e) = Err e

-- this is what the policy's verdict finds
pub record AreFindingsOf (d : Documents) (found : List PolicyFinding) : Type 0 where
  pub case : Case d
  pub findings_are : found ≡ findings_of case.policy.told (decision case)

-- what the policy finds against a review, or an error that the review may have
abbrev pub FindsReview : Documents → Limits → Result (List PolicyFinding) RunError → Type 0
FindsReview d limits (Ok found) = AreFindingsOf d found
FindsReview d limits (Err e) = HasNoResponse d limits e
