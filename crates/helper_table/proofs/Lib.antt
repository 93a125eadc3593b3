-- Proofs of helper_table: the list of their modules.
pub mod Placing
pub mod Unplaced
pub mod Seeing
pub mod Maps
pub mod Pairs
pub mod Reading
pub mod Finding
pub mod Bounded
pub mod Depths
pub mod Entering
pub mod Performing
pub mod Numbers
pub mod Tables
pub mod Prelude
