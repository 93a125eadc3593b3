-- Costs and size limits of policies, worked by hand.
use Rattle.std.specs.Prelude.{◌≡◌, ◌+◌, ◌*◌, [], ◌∷◌, Some, None, codes}
use Rattle.cel_reader.specs.Written.{str, yes, no}
use Rattle.cel_measures.specs.Rows.{conjoined}
use Rattle.expression_code.specs.Limits.{charge_per_unit}
use Rattle.policy_code.specs.Budget.{policy_spent, policy_work}
use Rattle.policy_glue.specs.DecisionRows.{at_most_three, bare, five, policy_of_validations, wrong}
use Rattle.policy_glue.specs.Limits.{excess}
use Rattle.policy_code.specs.Limits.{policy_nodes, policy_texts}
use Rattle.policy_code.specs.Trees.{PolicyTree}
use Rattle.policy_glue.specs.declared.compile_error.CompileError.TheVariants.{TooManyNodes}
use Rattle.verdicts.specs.declared.failure_policy.FailurePolicy.TheVariants.{Fail}

abbrev pub few_replicas : PolicyTree
few_replicas = policy_of_validations (bare at_most_three ∷ [])

-- one true and one false validation, each with a message expression of one node
abbrev pub with_messages : PolicyTree
with_messages =
    policy_of_validations (record { expression = yes; message = Some (str "a") }
    ∷ record { expression = no; message = Some (str "b") } ∷ [])

pub record BudgetRowsStand : Type 0 where
  -- the policy, the validation, an operator, two selections, a name and a literal
  pub work : policy_work Fail few_replicas five ≡ 7
  -- 8 * 7, results of sizes 1, 1, 11, 17 and 1, and field names of 9 and 5 bytes
  pub spent : policy_spent Fail few_replicas five ≡ 101
  -- the bound on the charge of the run; 28 is the charge of the review's roots
  pub charge_bound : 28 + charge_per_unit * policy_spent Fail few_replicas five ≡ 1644
  -- the policy, two validations of one node each, and the one message that is evaluated
  pub messages : policy_work Fail with_messages five ≡ 7
  -- no message is evaluated if the policy does not run
  pub no_messages : policy_work Fail (record with_messages { conditions = no ∷ [] }) five ≡ 7
  pub variable : policy_work Fail (record few_replicas { variables = record { name = []; expression = wrong } ∷ [] }) five ≡ 11
  pub nodes : policy_nodes with_messages ≡ 9
  pub texts : policy_texts (policy_of_validations (bare at_most_three ∷ bare at_most_three ∷ [])) ≡ codes "spec" ∷ codes "replicas" ∷ []
  -- true && true && .. with 255 and with 256 literals
  pub largest_nodes : policy_nodes (policy_of_validations (bare (conjoined 254) ∷ [])) ≡ 511
  pub largest : excess (policy_of_validations (bare (conjoined 254) ∷ [])) ≡ None
  pub too_many_nodes : policy_nodes (policy_of_validations (bare (conjoined 255) ∷ [])) ≡ 513
  pub too_large : excess (policy_of_validations (bare (conjoined 255) ∷ [])) ≡ Some TooManyNodes
