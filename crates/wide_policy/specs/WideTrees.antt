-- A policy with its expressions as wide trees.
use Rattle.std.specs.Prelude.{ℕ, List, Option}
use Rattle.wide_reader.specs.Tree.{Wide}

-- a variable, with its name
pub record WideVariableTree : Type 0 where
  pub name : List ℕ
  pub expression : Wide

-- a validation, and its message expression if it has one
pub record WideValidationTree : Type 0 where
  pub expression : Wide
  pub message : Option Wide

-- variables, match conditions and validations in order
pub record WidePolicyTree : Type 0 where
  pub variables : List WideVariableTree
  pub conditions : List Wide
  pub validations : List WideValidationTree
