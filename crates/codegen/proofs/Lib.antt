-- The proofs of `codegen`.

pub mod Behind
pub mod Layer
pub mod Finished
pub mod Prelude
