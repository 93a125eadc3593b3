-- Definitions of wide_kinds: the list of their modules.
pub mod Kinds
pub mod Fitting
pub mod Laws
