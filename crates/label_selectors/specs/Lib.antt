-- Label selectors: what they select, which ones the API server stores, and laws.

pub mod Laws
pub mod Rows
pub mod Selectors
pub mod Storing
