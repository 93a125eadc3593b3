-- Definitions of wide_indices: the list of their modules.
pub mod Narrow
pub mod Tables
pub mod Known
pub mod Law
pub mod Rows
