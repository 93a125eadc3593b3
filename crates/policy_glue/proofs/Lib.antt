-- The proofs of `policy_glue`.

mod Compiles
mod FoundOnLiterals
mod Judged
mod Named
mod OnLiterals
mod OneAnswer
pub mod Prelude
