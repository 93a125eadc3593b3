-- Definitions of host: the list of their modules.
pub mod FileSystem
pub mod ErrorCodes
pub mod Rows
