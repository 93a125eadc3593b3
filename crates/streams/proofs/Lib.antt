-- Proofs of streams: the list of their modules.
mod Bytes
mod Filled
pub mod Cut
pub mod Heard
pub mod LastLine
pub mod Prelude
