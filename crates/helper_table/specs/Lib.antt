-- Definitions of helper_table: the list of their modules.
pub mod Numbers
pub mod Operands
pub mod Outcome
pub mod Conversions
pub mod Lookups
pub mod Comparisons
pub mod Building
pub mod Calls
pub mod Reads
pub mod Rows
pub mod ReadRows
pub mod Ends
pub mod Kinds
pub mod Effects
pub mod Laws
pub mod Tables
