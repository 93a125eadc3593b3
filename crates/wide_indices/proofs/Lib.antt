-- Proofs of wide_indices: the list of their modules.
pub mod Indexed
pub mod Tabled
pub mod ListSteps
pub mod CallSteps
