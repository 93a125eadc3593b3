-- Proofs of history: the list of their modules.
mod AsBefore
mod Halving
mod Places
mod Searches
pub mod Prelude
