-- Definitions of guest_memory: the list of their modules.
pub mod ErrorCodes
pub mod Memory
pub mod Word
pub mod Access
pub mod Answers
pub mod PageBytes
pub mod Pages
pub mod PageSpans
pub mod RegionWords
pub mod Laws
pub mod Rows
