-- Proofs of bpf_word: the list of their modules.
pub mod Casts
pub mod Widths
pub mod Overflow
pub mod Prelude
