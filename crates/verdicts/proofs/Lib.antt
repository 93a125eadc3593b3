-- The proofs of `verdicts`.

mod Distinct
mod Escapes
mod Found
mod Left
pub mod Lists
pub mod Prelude
mod ResponseTexts
pub mod Told
