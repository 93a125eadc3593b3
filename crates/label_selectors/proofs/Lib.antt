-- The proofs of `label_selectors`.

pub mod Prelude
pub mod Parts
pub mod Relation
