-- Policies in documents, verdicts in memory, and what is told of a verdict.
pub mod Denials
pub mod ErrorCodes
pub mod FindingWords
pub mod Findings
pub mod Layout
pub mod Policy
pub mod Reading
pub mod Rejections
pub mod Response
pub mod ResponseTokens
pub mod Verdict
pub mod Words
