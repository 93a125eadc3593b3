-- The proofs of `admission_documents`.

pub mod Prelude
pub mod Lists
pub mod Parts
pub mod OnLiterals
