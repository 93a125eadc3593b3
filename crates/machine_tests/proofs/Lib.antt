-- Proofs of machine_tests: the list of their modules.
pub mod Looks
pub mod Prelude
