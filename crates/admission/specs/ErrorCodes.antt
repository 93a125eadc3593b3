-- The codes of this crate's errors.
use Rattle.std.specs.Prelude.{ℕ, List, codes}
use Rattle.verdicts.specs.ErrorCodes.{namespace_or_params_refused_code, out_of_reads_code, out_of_steps_code, over_limit_code}
use Rattle.verdicts.specs.ErrorCodes.{review_refused_code}
use Rattle.admission.specs.declared.run_error.RunError.{RunError}
use Rattle.admission.specs.declared.run_error.RunError.TheVariants.{PolicyRefused, ReviewRefused, NamespaceOrParamsRefused}
use Rattle.admission.specs.declared.run_error.RunError.TheVariants.{OutOfSteps, OverLimit, OutOfReads}
use Rattle.admission.specs.declared.run_error.RunError.TheVariants as run_error

-- the code of a run error: N1 to N5, N7 or memory
abbrev pub run_error_code : RunError → List ℕ
run_error_code (PolicyRefused e) = codes "N1"
run_error_code ReviewRefused = review_refused_code
run_error_code NamespaceOrParamsRefused = namespace_or_params_refused_code
run_error_code OutOfSteps = out_of_steps_code
run_error_code OverLimit = over_limit_code
run_error_code OutOfReads = out_of_reads_code
run_error_code run_error.Memory = codes "memory"
