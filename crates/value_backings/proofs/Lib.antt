-- The proofs of `value_backings`.

pub mod Kept
pub mod Backed
pub mod Prelude
