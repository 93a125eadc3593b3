-- Definitions of wide_widths: the list of their modules.
pub mod Narrow
pub mod Law
pub mod Rows
