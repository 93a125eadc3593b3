-- Proofs of text_functions: the list of their modules.
pub mod Ascii
pub mod Counting
pub mod Cutting
pub mod Joining
pub mod Prelude
pub mod ReplacedParts
pub mod Searching
pub mod SpelledInts
pub mod Splitting
pub mod Standing
pub mod Taking
