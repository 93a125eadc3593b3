-- The results of the first policies for a review.
use Rattle.std.specs.Prelude.{◌≡◌, ◌≢◌, ℕ, List, [], ◌∷◌, ◌++◌, map, option_map, Result, Err, String, string_bytes}
use Rattle.std.specs.declared.alloc.Global.{Global}
use Rattle.policy_glue.specs.Rejections.{rejection_view}
use Rattle.admission.specs.Decisions.{Decision}
use Rattle.admission.specs.Standing.{Images}
use Rattle.admission.specs.declared.run_error.RunError.{RunError, TheVariants.Memory}
use Rattle.gatekeeper_runner.specs.Policies.Together.{AreResults, joined, Gatekeeper, label_of, PolicyFile, PolicyResult, rejections, told_refusal}
use Rattle.gatekeeper_runner.specs.Refusals.{RefusingPolicy, Refused, refused_view}
use Rattle.gatekeeper_runner.specs.declared.policies.tally.Tally.{Tally}

-- the joined rejections among these results, and the refusal that is told of theirs
pub record IsTallyOf (results : List PolicyResult) (tally : Tally) : Type 0 where
  pub rejection : option_map rejection_view tally.rejection ≡ rejections results
  pub refused : option_map refused_view tally.refused ≡ told_refusal results

-- the result of a policy with this label is added; no allocation failed
pub record AddsResult (label : RefusingPolicy) (result : Result Decision RunError) (before after : Tally) : Type 0 where
  pub no_memory : result ≢ Err Memory
  pub adds : (results : List PolicyResult) (policy : PolicyFile) → label ≡ label_of policy → IsTallyOf results before
      → IsTallyOf (results ++ record { policy = policy; result = result } ∷ []) after

-- the results of these policies, and their tally
pub record AreTallied (chosen : Images) (t : Gatekeeper) (review : List ℕ) (policies : List PolicyFile) (tally : Tally) : Type 0 where
  pub results : List PolicyResult
  pub of_policies : map (λ r. r.policy) results ≡ policies
  pub are : AreResults chosen t review results
  pub tallied : IsTallyOf results tally

-- the joint result for a tally
abbrev pub ending_of : Tally → String Global → Result Decision Refused
ending_of tally uid = joined (option_map rejection_view tally.rejection) (option_map refused_view tally.refused) (string_bytes uid)
