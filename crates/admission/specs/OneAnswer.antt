-- A review has one result: a response, or a refusal with one cause.
use Rattle.std.specs.Prelude.{◌≡◌, ◌≢◌, List, Result, Err}
use Rattle.policy_glue.specs.Findings.{PolicyFinding}
use Rattle.policy_glue.specs.OneImage.{OneImage}
use Rattle.admission.specs.Deciding.{Reply, Documents, Reviews}
use Rattle.admission.specs.Findings.{FindsReview}
use Rattle.admission.specs.Standing.{RunAgrees}
use Rattle.admission.specs.declared.limits.Limits.{Limits}
use Rattle.admission.specs.declared.run_error.RunError.{RunError, TheVariants.Memory}

-- the review has this result, and the run of the policy's one image matches it
pub record IsAnswerTo (d : Documents) (limits : Limits) (result : Result Reply RunError) : Type 0 where
  pub reviews : Reviews d limits result
  pub runs : RunAgrees OneImage d limits result

-- two results of a review within the same limits are equal if neither is a failed allocation
abbrev pub ReviewHasOneResult : Type 0
ReviewHasOneResult =
    (d : Documents) (limits : Limits) (a b : Result Reply RunError) → a ≢ Err Memory → b ≢ Err Memory
    → IsAnswerTo d limits a → IsAnswerTo d limits b → a ≡ b

-- the policy finds this against the review, and the run of its one image agrees
pub record AreFindingsTo (d : Documents) (limits : Limits) (result : Result (List PolicyFinding) RunError) : Type 0 where
  pub finds : FindsReview d limits result
  pub runs : RunAgrees OneImage d limits result

-- and so are two lists of findings
abbrev pub FindingsHaveOneResult : Type 0
FindingsHaveOneResult =
    (d : Documents) (limits : Limits) (a b : Result (List PolicyFinding) RunError) → a ≢ Err Memory → b ≢ Err Memory
    → AreFindingsTo d limits a → AreFindingsTo d limits b → a ≡ b
