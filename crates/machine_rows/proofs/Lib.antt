-- Proofs of machine_rows: the list of their modules.
pub mod Lengths
pub mod RoundTrip
