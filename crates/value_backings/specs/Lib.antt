-- Definitions for the storage of texts, lists and maps: its ranges, and how it grows.

pub mod Ranges
pub mod Stored
