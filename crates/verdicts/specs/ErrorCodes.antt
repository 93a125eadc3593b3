-- The codes of this crate's errors, and of why a request is not decided.
use Rattle.std.specs.Prelude.{ℕ, List, codes}
use Rattle.verdicts.specs.declared.policy_error.PolicyError.{PolicyError, TheVariants.NotJson, TheVariants.NotAPolicy, TheVariants.InvalidField, TheVariants.NoValidations, TheVariants.TooManyParts, TheVariants.MessageWithLineBreak}
use Rattle.verdicts.specs.declared.policy_error.PolicyError.TheVariants as policy_error

-- the code of a policy error: K1 to K5, K8 or memory
abbrev pub policy_error_code : PolicyError → List ℕ
policy_error_code NotJson = codes "K1"
policy_error_code NotAPolicy = codes "K2"
policy_error_code InvalidField = codes "K3"
policy_error_code NoValidations = codes "K4"
policy_error_code TooManyParts = codes "K5"
policy_error_code MessageWithLineBreak = codes "K8"
policy_error_code policy_error.Memory = codes "memory"

-- ---- why a request is not decided

-- the review is refused
abbrev pub review_refused_code : List ℕ
review_refused_code = codes "N2"

-- the namespace or the params are refused
abbrev pub namespace_or_params_refused_code : List ℕ
namespace_or_params_refused_code = codes "N3"

-- a policy's program did not end within its steps
abbrev pub out_of_steps_code : List ℕ
out_of_steps_code = codes "N4"

-- a policy's program was stopped at a limit
abbrev pub over_limit_code : List ℕ
over_limit_code = codes "N5"

-- whether the request matches depends on what the cluster serves
abbrev pub unknown_match_code : List ℕ
unknown_match_code = codes "N6"

-- a policy's program would have read more than its limit
abbrev pub out_of_reads_code : List ℕ
out_of_reads_code = codes "N7"
