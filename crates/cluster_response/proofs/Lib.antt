-- The proofs of cluster_response, file by file.
pub mod Prelude
pub mod Allowed
pub mod Firsts
pub mod Floats
pub mod Kept
pub mod OnLiterals
pub mod Texts
