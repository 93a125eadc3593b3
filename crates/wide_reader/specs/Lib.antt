-- Definitions of wide_reader: the list of their modules.
pub mod Limits
pub mod Tree
pub mod Words
pub mod Forms
pub mod Shapes
pub mod Faults
pub mod Look
pub mod Grammar
pub mod Reading
pub mod Starts
pub mod Prefixes
pub mod Shown
pub mod Place
pub mod ErrorCodes
pub mod Answers
pub mod Laws
pub mod Shared
