-- Reviews: which outcomes allow a request, and the refusal of roots by their references, which are 4 for object, 5 for
-- oldObject, 6 for params, 7 for namespaceObject and 8 for request.
use Rattle.std.specs.Prelude.{◌≡◌, true, false, codes}
use Rattle.policy_glue.specs.declared.outcome.Outcome.TheVariants as outcome
use Rattle.policy_glue.specs.declared.policy_error.PolicyError.TheVariants.{NotJson}
use Rattle.value_store.specs.declared.table_error.TableError.TheVariants as table_error
use Rattle.admission.specs.Deciding.{is_allowed}
use Rattle.admission.specs.ErrorCodes.{run_error_code}
use Rattle.admission.specs.Reviews.{root_refusal}
use Rattle.admission.specs.declared.policy_refusal.PolicyRefusal.TheVariants.{Unread}
use Rattle.admission.specs.declared.run_error.RunError.TheVariants.{PolicyRefused, ReviewRefused}
use Rattle.admission.specs.declared.run_error.RunError.TheVariants.{NamespaceOrParamsRefused, OutOfSteps, OverLimit, OutOfReads}
use Rattle.admission.specs.declared.run_error.RunError.TheVariants.{Memory}

-- a policy that skips a request, or has nothing against it, allows it
pub record OutcomeRowsHold : Type 0 where
  pub skipped : is_allowed outcome.Skipped ≡ true
  pub admitted : is_allowed outcome.Admitted ≡ true
  pub denied : is_allowed outcome.Denied ≡ false
  pub rejected : is_allowed outcome.Rejected ≡ false

-- N3 refuses params and namespaces, N2 the roots that are parts of the review, and all that are too large together
pub record RootRowsHold : Type 0 where
  pub object : root_refusal (table_error.NotAnObject 4) ≡ ReviewRefused
  pub old_object : root_refusal (table_error.NotAnObject 5) ≡ ReviewRefused
  pub params : root_refusal (table_error.NotAnObject 6) ≡ NamespaceOrParamsRefused
  pub namespace : root_refusal (table_error.NotAnObject 7) ≡ NamespaceOrParamsRefused
  pub request : root_refusal (table_error.NotAnObject 8) ≡ ReviewRefused
  pub number_in_object : root_refusal (table_error.NumberOutOfInt64 4) ≡ ReviewRefused
  pub number_in_params : root_refusal (table_error.NumberOutOfInt64 6) ≡ NamespaceOrParamsRefused
  pub number_in_namespace : root_refusal (table_error.NumberOutOfInt64 7) ≡ NamespaceOrParamsRefused
  pub number_in_request : root_refusal (table_error.NumberOutOfInt64 8) ≡ ReviewRefused
  pub too_large_together : root_refusal table_error.RootsTooLarge ≡ ReviewRefused
  pub no_memory : root_refusal table_error.Memory ≡ Memory

-- the codes of errors
pub record CodeRowsHold : Type 0 where
  pub policy : run_error_code (PolicyRefused (Unread NotJson)) ≡ codes "N1"
  pub review : run_error_code ReviewRefused ≡ codes "N2"
  pub namespace_or_params : run_error_code NamespaceOrParamsRefused ≡ codes "N3"
  pub steps : run_error_code OutOfSteps ≡ codes "N4"
  pub limit : run_error_code OverLimit ≡ codes "N5"
  pub reads : run_error_code OutOfReads ≡ codes "N7"
  pub memory : run_error_code Memory ≡ codes "memory"
