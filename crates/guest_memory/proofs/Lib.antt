-- Proofs of guest_memory: the list of their modules.
pub mod Bytes
pub mod Start
pub mod Digits
pub mod Places
pub mod Map
pub mod Reading
pub mod Overlays
pub mod Writing
pub mod Lending
pub mod RegionWords
pub mod Prelude
pub mod PagedBytes
