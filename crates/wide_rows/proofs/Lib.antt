-- The proofs of `wide_rows`.

pub mod OnLiterals
pub mod Memory
