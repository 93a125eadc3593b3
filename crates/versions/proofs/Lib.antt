-- Proofs of versions: the list of their modules.
pub mod Comparing
pub mod Dots
pub mod Pluses
pub mod Sizes
