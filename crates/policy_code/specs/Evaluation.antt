-- What a policy decides on a request, given the meaning of its expressions.
use Rattle.std.specs.Prelude.{ℕ, List, [], ◌∷◌, ◌++◌, map, fold, Option, option_map}
use Rattle.value_store.specs.Value.{ValueOrError}
use Rattle.cel_reader.specs.Tree.{Tree}
use Rattle.cel_macros.specs.Environment.{Environment, Roots}
use Rattle.cel_macros.specs.Meaning.{meaning}
use Rattle.policy_code.specs.Trees.{VariableTree, ValidationTree, PolicyTree}
use Rattle.verdicts.specs.Verdict.{Verdict, verdict_of}
use Rattle.verdicts.specs.declared.failure_policy.FailurePolicy.{FailurePolicy}

-- the environment outside all macros: it has names for the roots and for these variables
abbrev pub environment_with : Roots → List (List ℕ × ValueOrError) → Environment
environment_with roots variables = record { roots = roots; items = []; variables = variables }

-- the values with one more variable, which may use the earlier ones
abbrev pub with_value : Roots → List (List ℕ × ValueOrError) → VariableTree → List (List ℕ × ValueOrError)
with_value roots before v = before ++ (v.name, meaning v.expression (environment_with roots before)) ∷ []

-- the variables with their values or errors, in order
abbrev pub values_of : Roots → List VariableTree → List (List ℕ × ValueOrError)
values_of roots variables = fold (with_value roots) [] variables

-- the values of the conditions; a condition may use no variable
abbrev pub condition_values : Roots → List Tree → List ValueOrError
condition_values roots conditions = map (λ e. meaning e (environment_with roots [])) conditions

-- the value of a validation's expression, and of its message expression if it has one
abbrev pub validation_value : Environment → ValidationTree → ValueOrError × Option ValueOrError
validation_value env r = (meaning r.expression env, option_map (λ m. meaning m env) r.message)

-- the values of the validations, which may use all variables
abbrev pub validation_values : Roots → PolicyTree → List (ValueOrError × Option ValueOrError)
validation_values roots p = map (validation_value (environment_with roots (values_of roots p.variables))) p.validations

-- the verdict on a request with these roots
unfoldable pub decision_of : FailurePolicy → PolicyTree → Roots → Verdict
decision_of f p roots = verdict_of f (condition_values roots p.conditions) (validation_values roots p)
