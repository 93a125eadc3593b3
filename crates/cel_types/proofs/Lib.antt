-- The proofs of `cel_types`.

pub mod TypedRows
pub mod Sound
pub mod CoreTypes
pub mod TypedCores
pub mod Arguments
pub mod RowTyped
pub mod NodeRows
pub mod Related
pub mod Prelude
