-- What the code of constructs gives, if the code of their parts gives their values.
pub mod Leaves
pub mod Selection
pub mod Logic
pub mod Aggregates
pub mod Comparison
pub mod Folds
pub mod Arithmetic
pub mod Paths
pub mod KeptLists
