-- Definitions for the code of expressions: what it is, and what it costs.

pub mod Cost
pub mod CostRows
pub mod Constants
pub mod FrameWords
pub mod Code
pub mod NameTable
pub mod Accepted
pub mod HasLiterals
pub mod Computes
pub mod Laws
pub mod Layer
