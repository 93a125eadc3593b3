-- Definitions of wide_tables: the list of their modules.
pub mod Building
pub mod Wrapping
pub mod Rows
