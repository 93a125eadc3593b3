-- The proofs of `policy_index`.

pub mod Prelude
pub mod Sound
pub mod Named
pub mod Marking
