-- The proofs of `value_table`.

pub mod TextLengths
pub mod Growth
pub mod Chunked
pub mod Adding
pub mod Listed
pub mod Counted
pub mod Named
pub mod Gathered
pub mod Growing
pub mod Starting
pub mod Rooted
pub mod Widths
pub mod Looked
pub mod Maps
pub mod Heads
pub mod Walks
pub mod Rows
pub mod Classes
pub mod Comparisons
pub mod Searches
pub mod Lookups
pub mod Mapped
pub mod Printing
pub mod Prelude
