-- Proofs of wide_tokens: the list of their modules.
pub mod Gaps
pub mod Kept
pub mod Marked
pub mod Fronts
pub mod Contents
pub mod Cutting
pub mod OneReading
pub mod Taking
pub mod Prelude
