-- The fields of a review that matching and the response read.
pub mod Fields
pub mod Reading
pub mod Rows
pub mod Same
