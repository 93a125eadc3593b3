-- Proofs of debugger: the list of their modules.
mod Texts
mod Asked
mod Quit
mod Addresses
mod Words
mod Ending
mod Going
mod Whole
mod Marks
mod Slots
mod Halving
mod Lines
mod Order
mod Parts
mod Shown
mod MemoryLines
mod Sizes
mod VerdictWords
pub mod Prelude
