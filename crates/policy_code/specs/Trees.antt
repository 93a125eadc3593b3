-- A policy with its expressions as trees.
use Rattle.std.specs.Prelude.{ℕ, List, Option}
use Rattle.cel_reader.specs.Tree.{Tree}

-- a variable, with its name
pub record VariableTree : Type 0 where
  pub name : List ℕ
  pub expression : Tree

-- a validation, and its message expression if it has one
pub record ValidationTree : Type 0 where
  pub expression : Tree
  pub message : Option Tree

-- variables, match conditions and validations in order
pub record PolicyTree : Type 0 where
  pub variables : List VariableTree
  pub conditions : List Tree
  pub validations : List ValidationTree
