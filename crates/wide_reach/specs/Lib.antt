-- Definitions of wide_reach: the list of their modules.
pub mod Parts
pub mod Reached
pub mod Known
pub mod Ranges
pub mod Scope
pub mod Law
pub mod Variables
pub mod Rows
