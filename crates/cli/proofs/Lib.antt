-- The proofs of `cli`.

pub mod Number
pub mod Endings
pub mod Texts
pub mod Prelude
