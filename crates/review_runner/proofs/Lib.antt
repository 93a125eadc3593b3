-- The proofs of `review_runner`.

pub mod Assembled
pub mod EffectFiles
pub mod EffectWords
pub mod Effects
pub mod HeldFiles
pub mod Kept
pub mod MadeFiles
pub mod Limit
pub mod Performed
pub mod Programs
pub mod Readings
pub mod Shape
pub mod SourceLines
pub mod PolicyFiles
mod ImageKept
mod ToldLines
pub mod Telling
pub mod Prelude
