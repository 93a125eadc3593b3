-- The proofs of line_answers, file by file.
mod Going
pub mod Meaning
pub mod OneAnswer
mod OneLine
pub mod Prelude
mod Tells
