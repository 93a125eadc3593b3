-- Definitions of timestamps: the list of their modules.
pub mod Arithmetic
pub mod Calendar
pub mod Fields
pub mod Laws
pub mod Rows
pub mod Timestamps
