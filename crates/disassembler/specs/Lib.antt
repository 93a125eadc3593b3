-- Definitions of disassembler: the list of their modules.
pub mod Answers
pub mod ErrorCodes
pub mod Laws
pub mod Rows
