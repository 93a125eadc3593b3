-- Decisions of policies by what their wide expressions mean (ValidatingAdmissionPolicy v1, failure policy), worked by hand.
use Rattle.std.specs.Prelude.{◌≡◌, true, false, pos, [], ◌∷◌, Some, None, codes}
use Rattle.cel_reader.specs.declared.operator.BinaryOperator.TheVariants.{Add, Equal, Greater}
use Rattle.value_store.specs.Value.{error, value, boolean, int}
use Rattle.cel_macros.specs.Environment.{Roots}
use Rattle.policy_glue.specs.Verdict.{Holds, Fails, Errs, Verdict}
use Rattle.policy_glue.specs.declared.failure_policy.FailurePolicy.{FailurePolicy, TheVariants.Fail, TheVariants.Ignore}
use Rattle.policy_glue.specs.declared.outcome.Outcome.{Outcome as Decided}
use Rattle.policy_glue.specs.declared.outcome.Outcome.TheVariants as outcome
use Rattle.wide_reader.specs.Tree as wide
use Rattle.wide_reader.specs.Tree.{Wide}
use Rattle.wide_meaning.specs.Outcome.{plain}
use Rattle.wide_meaning.specs.Written.{num, str, yes, no, nothing, wrong, name, dot, some, review, object_spec}
use Rattle.wide_policy.specs.Carrying.{roots_for}
use Rattle.wide_policy.specs.WideEvaluation.{wide_condition_values, wide_decision_of, wide_values_of}
use Rattle.wide_policy.specs.WideTrees.{WideVariableTree, WidePolicyTree}
use Rattle.wide_rows.specs.PolicyRows.{of_variable, variable, validation, policy}

-- the decision on the review of `wide_meaning`, whose calls that are left open are true
abbrev pub decided : FailurePolicy → WidePolicyTree → Verdict
decided f p = wide_decision_of (λ e env. plain (boolean true)) f p review.roots

-- the variable m, which is one more than the variable l; the roots of that review in a namespace
abbrev pub next_variable : WideVariableTree
next_variable = record { name = codes "m"; expression = wide.binary Add of_variable (num 1) }

abbrev pub in_namespace : Roots
in_namespace = record review.roots { namespace_object = int (pos 1) }

-- a verdict without findings
abbrev pub without_findings : Decided → Verdict
without_findings o = record { outcome = o; findings = [] }

-- a > 2, and object.spec.replicas
abbrev pub above : Wide → Wide
above a = wide.binary Greater a (num 2)

abbrev pub replicas : Wide
replicas = dot object_spec "replicas"

-- decisions by what wide expressions mean
pub record WideDecisionRowsStand : Type 0 where
  pub held : decided Fail (policy [] [] (validation (above replicas) ∷ []))
      ≡ record { outcome = outcome.Admitted; findings = record { truth = Holds; message = None } ∷ [] }
  pub denied : decided Fail (policy [] [] (validation no ∷ []))
      ≡ record { outcome = outcome.Denied; findings = record { truth = Fails; message = None } ∷ [] }
  pub failed : decided Fail (policy [] [] (validation wrong ∷ []))
      ≡ record { outcome = outcome.Denied; findings = record { truth = Errs; message = None } ∷ [] }
  pub ignored : decided Ignore (policy [] [] (validation wrong ∷ []))
      ≡ record { outcome = outcome.Admitted; findings = record { truth = Errs; message = None } ∷ [] }
  pub optional_is_an_error : decided Fail (policy [] [] (validation (some yes) ∷ []))
      ≡ record { outcome = outcome.Denied; findings = record { truth = Errs; message = None } ∷ [] }
  pub message : decided Fail (policy [] [] (record { expression = no; message = Some (str "m") } ∷ []))
      ≡ record { outcome = outcome.Denied; findings = record { truth = Fails; message = Some (codes "m") } ∷ [] }
  pub condition_fails : decided Fail (policy [] (no ∷ []) (validation no ∷ [])) ≡ without_findings outcome.Skipped
  pub condition_is_an_error : decided Fail (policy [] (wrong ∷ []) (validation no ∷ [])) ≡ without_findings outcome.Rejected
  pub condition_holds : decided Fail (policy [] (yes ∷ []) (validation no ∷ []))
      ≡ record { outcome = outcome.Denied; findings = record { truth = Fails; message = None } ∷ [] }
  pub variable_in_validation : decided Fail (policy (variable replicas ∷ []) [] (validation (above of_variable) ∷ []))
      ≡ record { outcome = outcome.Admitted; findings = record { truth = Holds; message = None } ∷ [] }
  pub no_variable_in_condition : decided Fail (policy (variable yes ∷ []) (of_variable ∷ []) (validation yes ∷ []))
      ≡ without_findings outcome.Rejected
  pub values :
      wide_values_of (λ e env. plain (boolean true)) review.roots (variable (num 1) ∷ next_variable ∷ [])
      ≡ (codes "l", plain (int (pos 1))) ∷ (codes "m", plain (int (pos 2))) ∷ []
  pub conditions :
      wide_condition_values (λ e env. plain (boolean true)) in_namespace (wide.binary Equal (name "namespaceObject") nothing ∷ wrong ∷ [])
      ≡ value (boolean true) ∷ error ∷ []
  pub unwrapped : roots_for false review.roots ≡ review.roots
