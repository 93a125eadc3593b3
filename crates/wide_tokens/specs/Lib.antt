-- Definitions of wide_tokens: the list of their modules.
pub mod Token
pub mod Gap
pub mod Quoted
pub mod Numbers
pub mod Texts
pub mod Pieces
pub mod Lexed
pub mod Lexis
pub mod Shown
pub mod Steps
pub mod Laws
pub mod Rows
