-- The proofs of `json_fields`.
pub mod Items
pub mod Removing
pub mod Read
