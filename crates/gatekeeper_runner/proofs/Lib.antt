-- The proofs of gatekeeper_runner, file by file.
mod RefusalTexts
mod Asked
mod Translated
mod LineEnds
mod Shape
mod Choices
mod OfPolicies
mod OfClusters
pub mod Prelude
