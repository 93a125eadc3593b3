-- Definitions of durations: the list of their modules.
pub mod Arithmetic
pub mod Durations
pub mod Parts
pub mod Rows
