-- Definitions of history: the list of their modules.
pub mod Limits
pub mod Past
pub mod Search
pub mod Unchanged
pub mod Rows
