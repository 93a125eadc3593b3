-- The proofs of `admission_match`.

pub mod Prelude
pub mod Texts
pub mod Candidates
pub mod Orders
pub mod Covered
pub mod Servers
