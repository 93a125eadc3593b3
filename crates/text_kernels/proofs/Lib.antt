-- Proofs of text_kernels: the list of their modules.
pub mod Masks
pub mod Pairs
pub mod Runs
pub mod Scalars
pub mod Prelude
