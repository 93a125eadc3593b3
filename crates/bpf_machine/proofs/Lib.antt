-- The proofs of `bpf_machine`.

pub mod Decoded
pub mod Groups
pub mod Limiting
pub mod Nulls
pub mod Registers
pub mod Spellings
pub mod Starts
pub mod States
pub mod Stopping
pub mod Prelude
