-- What a policy decides on a request, by the meaning of its wide expressions.
use Rattle.std.specs.Prelude.{ℕ, List, [], ◌∷◌, ◌++◌, map, fold, Option, option_map}
use Rattle.value_store.specs.Value.{ValueOrError}
use Rattle.cel_macros.specs.Environment.{Roots}
use Rattle.wide_reader.specs.Tree.{Wide}
use Rattle.wide_meaning.specs.Environment.{WideEnvironment}
use Rattle.wide_meaning.specs.Meaning.{wide_meaning}
use Rattle.wide_meaning.specs.Outcome.{Outcome, plain_part}
use Rattle.wide_translation.specs.Placed.{condition_roots, wide_environment}
use Rattle.policy_glue.specs.Verdict.{Verdict, verdict_of}
use Rattle.policy_glue.specs.declared.failure_policy.FailurePolicy.{FailurePolicy}
use Rattle.wide_policy.specs.WideTrees.{WideVariableTree, WideValidationTree, WidePolicyTree}

-- The calls that `wide_meaning` leaves open have the meaning that `others` gives them.
module _ (others : Wide → WideEnvironment → Outcome) where
  -- the value of an expression; the error for an optional value
  abbrev pub wide_value : WideEnvironment → Wide → ValueOrError
  wide_value env e = plain_part (wide_meaning others e env)

  -- the variables with one more, which may use the earlier ones and may be an optional value
  abbrev pub with_wide_value : Roots → List (List ℕ × Outcome) → WideVariableTree → List (List ℕ × Outcome)
  with_wide_value roots before v = before ++ (v.name, wide_meaning others v.expression (wide_environment roots before)) ∷ []

  -- the variables with what they evaluate to, in order
  abbrev pub wide_values_of : Roots → List WideVariableTree → List (List ℕ × Outcome)
  wide_values_of roots variables = fold (with_wide_value roots) [] variables

  -- the values of the conditions; a condition may use no variable, and has no namespace
  abbrev pub wide_condition_values : Roots → List Wide → List ValueOrError
  wide_condition_values roots conditions = map (λ (e : Wide). wide_value (wide_environment (condition_roots roots) []) e) conditions

  -- the value of a validation's expression, and of its message expression if it has one
  abbrev pub wide_validation_value : WideEnvironment → WideValidationTree → ValueOrError × Option ValueOrError
  wide_validation_value env r = (wide_value env r.expression, option_map (λ (m : Wide). wide_value env m) r.message)

  -- the values of the validations, which may use all variables
  abbrev pub wide_validation_values : Roots → WidePolicyTree → List (ValueOrError × Option ValueOrError)
  wide_validation_values roots p =
      map (wide_validation_value (wide_environment roots (wide_values_of roots p.variables))) p.validations

  -- the verdict on a request with these roots
  unfoldable pub wide_decision_of : FailurePolicy → WidePolicyTree → Roots → Verdict
  wide_decision_of f p roots = verdict_of f (wide_condition_values roots p.conditions) (wide_validation_values roots p)
