-- Definitions of insn_codec: the list of their modules.
pub mod Limits
pub mod Codes
pub mod Families
pub mod Slots
pub mod Spelling
pub mod Candidate
pub mod Spelled
pub mod Mnemonics
pub mod Lines
pub mod LineOperands
pub mod Statements
pub mod Laws
pub mod LineRows
pub mod OpcodeRows
pub mod RefusedRows
pub mod Rows
