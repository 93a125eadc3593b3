-- Proofs of cel_writer: the list of their modules.
pub mod Compared
pub mod ReadBack
pub mod Views
pub mod Listing
