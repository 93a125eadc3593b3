-- The proofs of `admission`.

pub mod Results
pub mod Said
mod DocumentNumbers
pub mod RootContents
pub mod RootTables
pub mod WrappedRoots
pub mod Decided
pub mod Standing
pub mod OneReview
pub mod Ends
pub mod WideCases
pub mod WideGates
pub mod Prelude
