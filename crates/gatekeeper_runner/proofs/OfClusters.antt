-- Lemmas on the program as a whole cluster.
pub mod LineOnce
pub mod Decided
pub mod Ends
pub mod Lists
pub mod Told
pub mod Noted
pub mod Counted
