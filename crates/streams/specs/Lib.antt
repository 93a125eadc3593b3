-- Definitions of streams: the list of their modules.
pub mod Streams
pub mod Lines
pub mod Failures
pub mod ErrorCodes
pub mod Writing
pub mod Buffers
pub mod Hearing
pub mod Rows
