-- Proofs of wide_kinds: the list of their modules.
pub mod Fitting
