-- Proofs of insn_codec: the list of their modules.
pub mod Decimals
pub mod Hex
pub mod Plain
pub mod Ranges
pub mod Spelled
pub mod Statements
pub mod Prelude
