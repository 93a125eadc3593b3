-- The proofs of `cluster_state`.

pub mod Prelude
pub mod Listed
pub mod Placed
pub mod Adding
pub mod Chosen
pub mod Held
pub mod Parts
pub mod Whole
pub mod Appended
pub mod Turns
pub mod OnLiterals
pub mod Orders
pub mod Reordered
pub mod Named
pub mod Indexed
pub mod Shaped
pub mod Scoped
