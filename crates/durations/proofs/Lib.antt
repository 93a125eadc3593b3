-- Proofs of durations: the list of their modules.
pub mod Sums
pub mod UnitNames
