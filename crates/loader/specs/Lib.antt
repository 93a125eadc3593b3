-- Definitions of loader: the list of their modules.
pub mod Limits
pub mod Contents
pub mod Format
pub mod Answers
pub mod ErrorCodes
pub mod Laws
