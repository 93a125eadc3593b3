-- The proofs of cluster_plan, file by file.
pub mod Prelude
pub mod Bound
pub mod OnLiterals
