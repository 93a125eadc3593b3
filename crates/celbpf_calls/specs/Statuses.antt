-- The statuses of refusals. 0 and 1 are decisions, 8 means that the buffer is too small, and 10 that the place is
-- empty.
use Rattle.std.specs.Prelude.{ℕ}
use Rattle.admission.specs.declared.policy_refusal.PolicyRefusal.{PolicyRefusal, TheVariants.Unread, TheVariants.Uncompiled}
use Rattle.admission.specs.declared.policy_refusal.PolicyRefusal.TheVariants as policy_refusal
use Rattle.admission.specs.declared.wide_refusal.WideRefusal.{WideRefusal}
use Rattle.admission.specs.declared.wide_refusal.WideRefusal.TheVariants as wide_refusal
use Rattle.wide_policy.specs.declared.wide_policy_error.WidePolicyError.{WidePolicyError}
use Rattle.wide_policy.specs.declared.wide_policy_error.WidePolicyError.TheVariants as wide_error
use Rattle.admission.specs.declared.run_error.RunError.{RunError}
use Rattle.admission.specs.declared.run_error.RunError.TheVariants.{PolicyRefused, ReviewRefused, NamespaceOrParamsRefused}
use Rattle.admission.specs.declared.run_error.RunError.TheVariants.{OutOfSteps, OverLimit, OutOfReads, Memory}

-- the status if a policy gives no image
abbrev pub policy_status : PolicyRefusal → ℕ
policy_status (Unread e) = 2
policy_status (Uncompiled e) = 3
policy_status policy_refusal.Memory = 9

-- the status if a document is no policy in the wide language
abbrev pub wide_policy_status : WidePolicyError → ℕ
wide_policy_status (wide_error.Unread e) = 2
wide_policy_status wide_error.HasAuditAnnotations = 2
wide_policy_status (wide_error.InvalidExpression part place e) = 3
wide_policy_status wide_error.Memory = 9

-- the status if a policy in the wide language gives no image
abbrev pub wide_status : WideRefusal → ℕ
wide_status (wide_refusal.Unread e) = wide_policy_status e
wide_status (wide_refusal.Uncompiled e) = 3
wide_status wide_refusal.Memory = 9

-- the status if a review has no response
abbrev pub run_status : RunError → ℕ
run_status (PolicyRefused e) = policy_status e
run_status ReviewRefused = 4
run_status NamespaceOrParamsRefused = 5
run_status OutOfSteps = 6
run_status OverLimit = 7
run_status OutOfReads = 12
run_status Memory = 9
