-- Proofs of value_store: the list of their modules.
pub mod Ascending
pub mod Equal
pub mod Keys
pub mod Ordered
pub mod Lengths
pub mod Measures
pub mod Orders
pub mod Pairs
pub mod Parts
pub mod Places
pub mod Documents
pub mod Starting
pub mod Tables
pub mod Texts
pub mod Trees
pub mod Prelude
