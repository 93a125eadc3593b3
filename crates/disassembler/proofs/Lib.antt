-- Proofs of disassembler: the list of their modules.
pub mod Words
pub mod Going
pub mod One
pub mod Prelude
