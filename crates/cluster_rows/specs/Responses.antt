-- Answers by the events of a dispatch, in which a denial comes before what others find (Kubernetes, dispatch of
-- ValidatingAdmissionPolicies), worked by hand.
use Rattle.std.specs.Prelude.{◌≡◌, true, [], ◌∷◌, ◌++◌, Some, codes}
use Rattle.cluster_state.specs.declared.action.Action.TheVariants.{Deny, Warn}
use Rattle.policy_glue.specs.declared.reason.Reason.TheVariants.{Invalid}
use Rattle.cluster_response.specs.Events.{Undecided, refuses, told_undecided}
use Rattle.cluster_response.specs.Rows.{answer, found, reviewed, twice, under, warning_of_n}
use Rattle.cluster_response.specs.declared.cluster_refusal.ClusterRefusal.TheVariants.{OutOfSteps}

-- the policy q does not decide
abbrev pub q_is_undecided : Undecided
q_is_undecided = record { policy = codes "q"; fails_closed = true; refusal = OutOfSteps }

pub record EventAnswerRowsHold : Type 0 where
  pub warning_after_denial : answer (under (Deny ∷ []) twice ++ under (Warn ∷ []) (found 0 (codes "n") Invalid ∷ []))
      ≡ reviewed (codes "{\"allowed\":false,\"status\":{\"code\":403,\"message\":\"deployments.apps \\\"web\\\" is forbidden: ValidatingAdmissionPolicy 'p' with binding 'b' denied request: m\""
      ++ (codes ",\"reason\":\"Forbidden\"},\"uid\":\"u1\",\"warnings\":["
      ++ (warning_of_n ++ codes "]}")))
  pub refusal_after_denial : told_undecided (under (Deny ∷ []) twice ++ refuses q_is_undecided ∷ []) ≡ Some q_is_undecided
