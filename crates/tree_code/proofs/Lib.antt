-- The proofs of `tree_code`.

pub mod Behind
pub mod Lengths
pub mod KeptLists
pub mod Lent
pub mod Walks
pub mod Accepted
pub mod Parts
pub mod Folds
pub mod Computed
pub mod Layer
pub mod CodeInsns
pub mod Whole
pub mod Prelude
pub mod Subexpressions
