-- The code of constructs, built from the code of their parts. Code leaves the reference of its value in R0. It uses
-- the words of the frame from its base on; those below the base are unchanged.
pub mod Leaves
pub mod Calls
pub mod Literals
pub mod Names
pub mod Selection
pub mod Logic
pub mod Arithmetic
pub mod Comparison
pub mod Aggregates
pub mod KeptLists
pub mod Folds
