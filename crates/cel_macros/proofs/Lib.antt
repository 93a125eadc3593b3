-- Proofs of cel_macros: the list of their modules.
pub mod Quantified
pub mod Kept
pub mod Folds
pub mod Callees
pub mod Expansion
pub mod Arguments
pub mod Views
pub mod PartsExpanded
pub mod ValueParts
pub mod StaysValue
pub mod Prelude
