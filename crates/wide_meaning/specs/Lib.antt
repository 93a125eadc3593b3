-- Definitions of wide_meaning: the list of their modules.
pub mod Outcome
pub mod Access
pub mod Operators
pub mod Ranges
pub mod Environment
pub mod ListMethods
pub mod Functions
pub mod Meaning
pub mod Written
pub mod Rows
