-- Proofs of wide_tables: the list of their modules.
pub mod Added
pub mod WrappedRoots
