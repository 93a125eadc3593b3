-- The proofs of `policy_code`.

mod MessageTails
pub mod Emission
mod PartTexts
pub mod Programs
pub mod Prelude
