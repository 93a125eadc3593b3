-- Lemmas on the program under given policies.
pub mod FailFirst
pub mod Gates
pub mod Tallies
pub mod Opened
pub mod SaidOnce
pub mod LineOnce
