-- Policies whose macros with two names need no more indices than the documents are wide, judged by the form of their
-- expressions.
use Rattle.std.specs.Prelude.{ℕ, Bool, true, ◌&&◌, List, [], ◌∷◌, ◌++◌, fold, Option, Some, None}
use Rattle.std.specs.List.{list_all}
use Rattle.wide_reader.specs.Tree.{Wide}
use Rattle.wide_widths.specs.Narrow.{is_narrow}
use Rattle.wide_indices.specs.Narrow.{has_narrow_ranges, outside}
use Rattle.wide_policy.specs.WideTrees.{WideVariableTree, WideValidationTree, WidePolicyTree}

-- what is known of the variables with one more, which may use the earlier ones
abbrev pub with_known_variable : List (List ℕ × Bool) → WideVariableTree → List (List ℕ × Bool)
with_known_variable before v = before ++ (v.name, is_narrow (outside before) v.expression) ∷ []

abbrev pub known_variables : List (List ℕ × Bool) → List WideVariableTree → List (List ℕ × Bool)
known_variables before variables = fold with_known_variable before variables

-- whether the ranges are narrow in an expression, which may use these variables
abbrev pub is_tabled : List (List ℕ × Bool) → Wide → Bool
is_tabled known e = has_narrow_ranges (outside known) e

-- whether they are in the variables, each of which may use the earlier ones
abbrev pub are_variables_tabled : List (List ℕ × Bool) → List WideVariableTree → Bool
are_variables_tabled before [] = true
are_variables_tabled before (v ∷ vs) = is_tabled before v.expression && are_variables_tabled (with_known_variable before v) vs

-- whether they are in a message expression, if there is one
abbrev pub is_message_tabled : List (List ℕ × Bool) → Option Wide → Bool
is_message_tabled known (Some e) = is_tabled known e
is_message_tabled known None = true

-- whether they are in a validation
abbrev pub is_validation_tabled : List (List ℕ × Bool) → WideValidationTree → Bool
is_validation_tabled known r = is_tabled known r.expression && is_message_tabled known r.message

-- whether they are in all expressions of a policy; a condition may use no variable
abbrev pub is_policy_tabled : WidePolicyTree → Bool
is_policy_tabled w =
    list_all (is_tabled []) w.conditions
    && (are_variables_tabled [] w.variables && list_all (is_validation_tabled (known_variables [] w.variables)) w.validations)
