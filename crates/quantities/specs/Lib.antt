-- Definitions of quantities: the list of their modules.
pub mod Laws
pub mod Quantities
pub mod Rows
pub mod Suffixes
