-- Definitions of value_widths: the list of their modules.
pub mod Width
pub mod Parts
pub mod Rows
