-- Definitions of cel_reader: the list of their modules.
pub mod Limits
pub mod Tree
pub mod Words
pub mod WellFormed
pub mod Written
pub mod Look
pub mod Grammar
pub mod Reading
pub mod Shown
pub mod Place
pub mod Prefixes
pub mod Answers
pub mod Laws
pub mod LiteralRows
pub mod RefusalRows
