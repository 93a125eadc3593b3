-- The code of macros gives their folds.
pub mod Budgets
pub mod Turn
pub mod Once
pub mod MapsWhere
pub mod All
pub mod Tails
