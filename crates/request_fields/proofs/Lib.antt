-- The proofs of `request_fields`.
pub mod Kept
pub mod Ordered
pub mod KeptSoFar
pub mod Requests
