-- The proofs of `shared_lists`.

pub mod Kept
pub mod Pushed
mod Pooled
pub mod Prelude
