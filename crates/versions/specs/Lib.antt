-- Definitions of versions: the list of their modules.
pub mod Identifiers
pub mod Order
pub mod Rows
pub mod Versions
