-- Definitions of bpf_word: the list of their modules.
pub mod Arithmetic
pub mod Atomics
pub mod Bytes
pub mod Comparisons
pub mod Halves
pub mod Operations
pub mod Overflow
pub mod Rows
pub mod Signs
