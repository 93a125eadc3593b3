-- Proofs of loader: the list of their modules.
pub mod Numbers
pub mod Faults
pub mod RoundTrip
pub mod WithinLimits
pub mod Prelude
