-- The expressions of a policy as the code has them once they are checked, and the trees that they are.
use Rattle.std.specs.Prelude.{◌≡◌, All, IfSome, map, Option, option_map}
use Rattle.cel_reader.specs.WellFormed.{IsWellFormed}
use Rattle.cel_macros.specs.CoreTree.{Core, expanded}
use Rattle.cel_macros.specs.CoreView.{core_view}
use Rattle.policy_code.specs.Scopes.{scope_after}
use Rattle.policy_code.specs.Trees.{VariableTree, ValidationTree, PolicyTree}
use Rattle.policy_code.specs.declared.checked.Checked.{Checked}
use Rattle.policy_code.specs.declared.checked_validation.CheckedValidation.{CheckedValidation}

-- ---- parts

-- the tree of a variable, with its macros expanded
abbrev pub variable_expanded : VariableTree → Core
variable_expanded v = expanded v.expression

-- the trees of a validation in the code
abbrev pub validation_trees : CheckedValidation → Core × Option Core
validation_trees v = (core_view v.expression, option_map core_view v.message)

-- the trees of a validation, with their macros expanded
abbrev pub validation_expanded : ValidationTree → Core × Option Core
validation_expanded r = (expanded r.expression, option_map expanded r.message)

-- the tree of a variable is well formed
abbrev pub IsFormedVariable : VariableTree → Type 0
IsFormedVariable v = IsWellFormed v.expression

-- the trees of a validation are well formed
abbrev pub IsFormedValidation : ValidationTree → Type 0
IsFormedValidation r = IsWellFormed r.expression × IfSome r.message IsWellFormed

-- ---- a policy

-- the literals of its trees are valid values, and the names valid names
pub record IsFormed (t : PolicyTree) : Type 0 where
  pub variables : All IsFormedVariable t.variables
  pub conditions : All IsWellFormed t.conditions
  pub validations : All IsFormedValidation t.validations

-- the result of the check holds these trees
pub record IsChecked (checked : Checked) (t : PolicyTree) : Type 0 where
  pub scope : checked.scope ≡ scope_after t.variables
  pub variables : map core_view checked.variables.items ≡ map variable_expanded t.variables
  pub conditions : map core_view checked.conditions.items ≡ map expanded t.conditions
  pub validations : map validation_trees checked.validations.items ≡ map validation_expanded t.validations
  pub formed : IsFormed t
