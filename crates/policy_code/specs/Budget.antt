-- The cost of evaluating a policy: the visits and sizes that bound the steps and the charge of its program.
use Rattle.std.specs.Prelude.{◌≡◌, ℕ, ◌+◌, ◌*◌, Bool, true, ◌&&◌, List, [], ◌∷◌, map, Option, Some, is_none}
use Rattle.value_store.specs.Value.{ValueOrError}
use Rattle.cel_reader.specs.Tree.{Tree}
use Rattle.cel_macros.specs.Environment.{Environment, Roots}
use Rattle.cel_macros.specs.Meaning.{meaning}
use Rattle.tree_code.specs.Cost.{Cost, ◌and◌, nothing, cost, one_visit}
use Rattle.policy_code.specs.Evaluation.{condition_values, environment_with, values_of, with_value}
use Rattle.policy_code.specs.Trees.{VariableTree, ValidationTree, PolicyTree}
use Rattle.verdicts.specs.Verdict.{decided_before, denies, truth_of}
use Rattle.verdicts.specs.declared.failure_policy.FailurePolicy.{FailurePolicy}

-- a part in this environment: its visit and the cost of its expression
abbrev pub part_cost : Environment → Tree → Cost
part_cost env a = one_visit and cost a env

-- these variables, given the values of the earlier ones
abbrev pub variables_cost : Roots → List (List ℕ × ValueOrError) → List VariableTree → Cost
variables_cost roots before [] = nothing
variables_cost roots before (v ∷ vs) =
    part_cost (environment_with roots before) v.expression and variables_cost roots (with_value roots before v) vs

-- all conditions; a condition may use no variable
abbrev pub conditions_cost : Roots → List Tree → Cost
conditions_cost roots [] = nothing
conditions_cost roots (a ∷ more) = part_cost (environment_with roots []) a and conditions_cost roots more

-- a message expression, if it is evaluated
abbrev pub message_cost : Bool → Environment → Option Tree → Cost
message_cost true env (Some a) = part_cost env a
message_cost _ env m = nothing

-- all validations, in an environment with all variables, each with its message expression if it denies; the first argument says
-- whether the policy runs
abbrev pub validations_cost : Bool → FailurePolicy → Environment → List ValidationTree → Cost
validations_cost runs f env [] = nothing
validations_cost runs f env (r ∷ rs) =
    part_cost env r.expression and message_cost (runs && denies f (truth_of (meaning r.expression env))) env r.message
    and validations_cost runs f env rs

-- whether the policy runs on these roots, as its conditions decide nothing
abbrev pub runs_on : FailurePolicy → PolicyTree → Roots → Bool
runs_on f p roots = is_none (decided_before f (map truth_of (condition_values roots p.conditions)))

-- the whole policy on these roots. All variables, conditions and validations count, even if the conditions decide.
unfoldable pub policy_cost : FailurePolicy → PolicyTree → Roots → Cost
policy_cost f p roots =
    one_visit
    and variables_cost roots [] p.variables
    and conditions_cost roots p.conditions
    and validations_cost (runs_on f p roots) f (environment_with roots (values_of roots p.variables)) p.validations

-- the number of nodes, items and parts that are visited
abbrev pub policy_work : FailurePolicy → PolicyTree → Roots → ℕ
policy_work f p roots = (policy_cost f p roots).visits

-- 8 for each visit, plus the sizes
abbrev pub policy_spent : FailurePolicy → PolicyTree → Roots → ℕ
policy_spent f p roots = 8 * (policy_cost f p roots).visits + (policy_cost f p roots).sizes

-- the evaluation would build a list or map around a value of depth 255 or more
abbrev pub IsDeepPolicy : FailurePolicy → PolicyTree → Roots → Type 0
IsDeepPolicy f p roots = (policy_cost f p roots).is_deep ≡ true
