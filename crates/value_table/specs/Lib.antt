-- Definitions for the table of values: its cells, their values, and how they are read.

pub mod Meaning
pub mod Measures
pub mod Lengths
pub mod Heaps
pub mod Heap
pub mod References
pub mod Heads
pub mod Equality
pub mod Known
pub mod Search
pub mod Entries
pub mod Growing
pub mod Held
pub mod Start
pub mod Rooted
pub mod Tokens
pub mod Chunks
pub mod Lending
