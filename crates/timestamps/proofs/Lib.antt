-- Proofs of timestamps: the list of their modules.
pub mod DateIn
pub mod Nanos
pub mod OneDate
pub mod Years
