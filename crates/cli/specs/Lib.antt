-- Definitions that both programs share: arguments, optional files, refusals, and ends of programs.

pub mod Limits
pub mod Refusals
pub mod WideTexts
pub mod Number
pub mod Arguments
pub mod GivenFiles
pub mod Ending
pub mod Parsing
pub mod Rows
pub mod EndingRows
