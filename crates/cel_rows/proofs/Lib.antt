-- The proofs of `cel_rows`.

pub mod OnLiterals
